use Rattle.std.proofs.Common.{◌≡◌, ◌<◌, ℕ, true}
use Rattle.hcl_types.specs.Equations.{is_known}
use Rattle.hcl_order.proofs.arrange.whole.Given as goal

abbrev pub invariant-loop-row : goal.invariant-loop-row
invariant-loop-row l = (k : ℕ) → k < l.row → is_known l.done k ≡ true
