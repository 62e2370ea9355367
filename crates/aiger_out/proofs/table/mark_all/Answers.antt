use Rattle.std.proofs.Common.{ap, ◌∙◌, arith}
use Rattle.aiger_out.specs.declared.form.AagLine.{AagLine}
use Rattle.aiger_out.specs.Form.{defines}
use Rattle.aiger_out.specs.Rows.{first_at, row}
use Rattle.aiger_out.proofs.Firsts.{firsts_more, kept}
use Rattle.aiger_out.proofs.table.mark_all.Goals as goal

pub loop-j-preserved : goal.loop-j-preserved
loop-j-preserved c =
    let h = c.args.h in
    let old = c.loop-j.firsts in
    let j = c.loop-j.j in
    firsts_more h (row c.args.rows.now) j old c.mark.new.firsts c.loop-j.invariant (omega (arith, c.loop-j.auto.j))
    (omega (arith, c.loop-j-test.true, c.requires.size, c.requires.bounded.most, c.requires.bounded.outputs, c.requires.bounded.defined)) (c.mark.auto.firsts)
    (λ v. c.mark.ensures v ∙ ap (λ (line : AagLine). kept (defines h line v) (first_at old v) j) c.row_at-line.ensures)
