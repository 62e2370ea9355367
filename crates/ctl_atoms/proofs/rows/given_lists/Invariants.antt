use Rattle.std.proofs.Common.{◌≡◌, ◌<◌, ℕ, [], length, slice_get}
use Rattle.ctl_atoms.specs.Rows.{leaves_at, leaves_of_row}
use Rattle.ctl_atoms.proofs.rows.given_lists.Given as goal

abbrev pub invariant-loop-id : goal.invariant-loop-id
invariant-loop-id l = (length l.lists.items ≡ l.id) × ((n : ℕ) → n < l.id → leaves_at l.lists.items n ≡ leaves_of_row (slice_get l.rows n) n [])
