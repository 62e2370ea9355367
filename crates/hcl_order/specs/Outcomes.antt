-- An order if no row depends on itself, and otherwise the first cycle.
use Rattle.std.specs.Prelude.{ℕ, Bool, List}
use Rattle.hcl_types.specs.Equations.{IsTopologicalOrder, needs_of}
use Rattle.hcl_order.specs.Dependence.{Depends, FirstCycle}
use Rattle.hcl_order.specs.declared.rows.OrderOutcome.{OrderOutcome}
use Rattle.hcl_order.specs.declared.rows.OrderOutcome.TheVariants as outcome
use Rattle.hcl_order.specs.declared.fault.OrderFault.{OrderFault}
use Rattle.hcl_order.specs.declared.fault.OrderFault.TheVariants as fault

abbrev pub IsOutcome : List (List ℕ) → List Bool → OrderOutcome → Type 0
IsOutcome needs known (outcome.Order ids) = IsTopologicalOrder needs known ids × ((n : ℕ) → Depends (needs_of needs) n n → ⊥)
IsOutcome needs known (outcome.Cycle ids) = FirstCycle (needs_of needs) ids

abbrev pub IsFault : (ℕ → List ℕ) → OrderFault → Type 0
IsFault needs (fault.Cycle ids) = FirstCycle needs ids
IsFault needs fault.Memory = Unit {0}
