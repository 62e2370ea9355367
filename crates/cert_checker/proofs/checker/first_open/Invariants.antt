use Rattle.std.proofs.Common.{◌≡◌, ℕ, ◌<◌, Some, slice_get}
use Rattle.cert_checker.proofs.checker.first_open.Given as goal

abbrev pub invariant-loop-k : goal.invariant-loop-k
invariant-loop-k l = (j w : ℕ) → j < l.k → slice_get l.want j ≡ Some w → slice_get l.known.gates w ≡ Some 1
