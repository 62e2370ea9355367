use Rattle.std.proofs.Common.{arith, ◌∙◌, ap}
use Rattle.hcl_order.proofs.Arranging.{passed_miss, passed_hit, arranged_more}
use Rattle.hcl_order.proofs.arrange.arrange_ready.Goals as goal
use Rattle.hcl_order.proofs.arrange.arrange_ready.Goals.{then-is_ready+in_ok-push, else-is_ready}

pub loop-row-preserved : goal.loop-row-preserved
loop-row-preserved c = elim c.if-is_ready.branch [
  | then-is_ready+in_ok-push w ↦ (let y = c.is_ready.ensures.yes w.if-is_ready.true in (
    rw w.added-is (passed_hit _ _ _ _ _ _ c.loop-row.invariant.0 (omega (arith, c.loop-row-test.true, c.requires.rows.0)) y.0 w.done-is),
    λ known a. arranged_more _ known _ _ _ _ c.loop-row.row (c.loop-row.invariant.1 known a) c.loop-row-test.true y.0 y.1 w.done-is (ap (λ v. v.items) w.ids-is ∙ w.in_ok-push.ensures.items),
  ))
  | else-is_ready w ↦ (
    rw (w.added-is, w.done-is) (passed_miss _ _ _ _ _ c.loop-row.invariant.0 (c.is_ready.ensures.no w.if-is_ready.false)),
    rw (w.done-is, w.ids-is) c.loop-row.invariant.1,
  )
]
