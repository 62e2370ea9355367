use Rattle.std.proofs.Common.{arith}
use Rattle.hcl_order.proofs.Layering.{layer_miss, layer_hit}
use Rattle.hcl_order.proofs.layers.mark_layer.Goals as goal
use Rattle.hcl_order.proofs.layers.mark_layer.Goals.{then-is_next, else-is_next}

pub loop-row-preserved : goal.loop-row-preserved
loop-row-preserved c = elim c.if-is_next.branch [
  | then-is_next w ↦ (let y = c.is_next.ensures.yes w.if-is_next.true in
      rw w.added-is (layer_hit _ _ _ y.1.0 _ _ _ _ c.requires.level.0 c.loop-row.invariant (omega (arith, c.loop-row-test.true, c.requires.size)) y.0 y.1.1 y.1.2 w.marks-is))
  | else-is_next w ↦ rw (w.added-is, w.marks-is) (layer_miss _ _ _ _ _ _ c.requires.level.0 c.loop-row.invariant (c.is_next.ensures.no w.if-is_next.false))
]
