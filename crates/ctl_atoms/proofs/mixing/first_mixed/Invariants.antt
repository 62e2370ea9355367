use Rattle.std.proofs.Common.{◌≡◌, ◌<◌, ℕ, false}
use Rattle.ctl_atoms.specs.Mixing.{mixes}
use Rattle.ctl_atoms.proofs.mixing.first_mixed.Given as goal

abbrev pub invariant-loop-id : goal.invariant-loop-id
invariant-loop-id l = (n : ℕ) → n < l.id → mixes l.rows l.terms n ≡ false
