use Rattle.std.proofs.Common.{◌≡◌, drop, length}
use Rattle.hcl_binding.specs.BindSteps.{put_items}
use Rattle.hcl_binding.proofs.binding.put_items.Given as goal

abbrev pub invariant-loop-item : goal.invariant-loop-item
invariant-loop-item l = (put_items l.rows l.bodies.items (drop l.item-index l.items) ≡ put_items l.rows l.fn.bodies.items l.items) × (length l.bodies.items ≡ length l.rows)
