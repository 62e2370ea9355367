use Rattle.std.proofs.Common.{◌∙◌}
use Rattle.hcl_order.proofs.Members.{in_at}
use Rattle.hcl_order.proofs.Leasts.{least_miss, least_hit, least_of_all}
use Rattle.hcl_order.proofs.layers.least_marked.Goals as goal
use Rattle.hcl_order.proofs.layers.least_marked.Goals.{then-marks-row, else-marks-row}

pub bounds-marks-row : goal.bounds-marks-row
bounds-marks-row c = c.requires _ (in_at c.args.needs.now c.loop-row.row-index c.loop-row-test.true)

pub loop-row-preserved : goal.loop-row-preserved
loop-row-preserved c = elim c.if-marks-row.branch [
  | then-marks-row w ↦ least_hit _ _ _ c.loop-row.row-index c.loop-row.least _ c.loop-row.invariant c.loop-row-test.true
      (c.requires _ (in_at c.args.needs.now c.loop-row.row-index c.loop-row-test.true)) w.if-marks-row.true (w.least-is ∙ w.min-least.ensures)
  | else-marks-row w ↦ rw w.least-is (least_miss _ _ _ _ _ c.loop-row.invariant w.if-marks-row.false)
]

pub returns-clause-least : goal.returns-clause-least
returns-clause-least c = least_of_all _ _ _ _ _ c.loop-row.invariant c.loop-row-test.false
