use Rattle.std.proofs.Common.{◌≡◌, ◌<◌, ℕ, length}
use Rattle.hcl_order.specs.Dependence.{Depends}
use Rattle.hcl_types.specs.Equations.{needs_of}
use Rattle.hcl_order.proofs.cycle.find_cycle.Given as goal

abbrev pub invariant-loop-row : goal.invariant-loop-row
invariant-loop-row l = (length l.marks ≡ length l.needs) × ((n : ℕ) → n < l.row → Depends (needs_of l.needs) n n → ⊥)
