use Rattle.std.proofs.Common.{inl, inr, ◌∙◌}
use Rattle.hcl_order.proofs.Arranging.{ordered_rows}
use Rattle.hcl_order.proofs.rows.order_rows.Goals as goal
use Rattle.hcl_order.proofs.rows.order_rows.Goals.{then-not-branch+in_ok-cycle+in-None, else-not-branch}

pub returns : goal.returns
returns c = elim c.if-not-branch.branch [
  | then-not-branch+in_ok-cycle+in-None w ↦
      ordered_rows _ _ _ _ _ _ c.in_ok-arrange_rows.ensures (c.as_mut_slice.ensures.value ∙ c.in_ok-done.ensures.items) c.of.ensures (inr (rw w.in-None.is at w.in_ok-cycle.ensures)) c.requires.known
  | else-not-branch w ↦
      ordered_rows _ _ _ _ _ _ c.in_ok-arrange_rows.ensures (c.as_mut_slice.ensures.value ∙ c.in_ok-done.ensures.items) c.of.ensures (inl w.if-not-branch.false) c.requires.known
]
