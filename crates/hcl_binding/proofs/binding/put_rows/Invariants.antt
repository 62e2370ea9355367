use Rattle.std.proofs.Common.{◌≡◌, [], drop}
use Rattle.std.specs.Vec.Iter.{into_iter_items}
use Rattle.hcl_binding.specs.BindSteps.{put_rows}
use Rattle.hcl_binding.proofs.binding.put_rows.Given as goal

abbrev pub invariant-loop-row : goal.invariant-loop-row
invariant-loop-row l = put_rows l.terms.items (drop l.row-index l.rows) (into_iter_items l.left) ≡ put_rows [] l.rows l.fn.bodies.items
