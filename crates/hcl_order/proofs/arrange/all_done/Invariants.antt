use Rattle.std.proofs.Common.{◌≡◌, ◌<◌, ℕ, true, slice_index}
use Rattle.hcl_types.specs.Equations.{is_known}
use Rattle.hcl_order.proofs.arrange.all_done.Given as goal

abbrev pub invariant-loop-row : goal.invariant-loop-row
invariant-loop-row l = (k : ℕ) → k < l.row-index → is_known l.done (slice_index l.needs k) ≡ true
