use Rattle.std.proofs.Common.{◌∙◌}
use Rattle.hcl_binding.proofs.Naming.{one_more}
use Rattle.hcl_binding.proofs.places.NameIndex.of.Goals as goal

pub loop-row-preserved : goal.loop-row-preserved
loop-row-preserved c =
    rw c.in_ok-insert.ensures.keys (one_more c.loop-row.names.keys c.in_ok-name.name c.args.rows.now c.loop-row.row-index c.row-item.result
    c.loop-row-test.true c.row-item.is (c.in_ok-name.ensures.items ∙ c.bytes.ensures) c.loop-row.invariant c.requires.apart)
