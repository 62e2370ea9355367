use Rattle.std.proofs.Common.{◌≡◌, ◌<◌, ℕ, length}
use Rattle.control_values.specs.Given.{at, field_at, given_leaf}
use Rattle.control_values.proofs.filling.given_leaves.Given as goal

abbrev pub invariant-loop-id : goal.invariant-loop-id
invariant-loop-id l = (length l.leaves.items ≡ l.id) × ((n : ℕ) → n < l.id → at l.leaves.items n ≡ given_leaf (field_at l.s.fields.now l.s.bits.now) l.rows n)
