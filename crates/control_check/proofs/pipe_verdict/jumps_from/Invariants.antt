use Rattle.std.proofs.Common.{◌≡◌, ◌+◌, ◌<◌, ℕ, get_or, false, length}
use Rattle.control_check.proofs.pipe_verdict.jumps_from.Given as goal

abbrev pub invariant-loop-k : goal.invariant-loop-k
invariant-loop-k l = record {
  size : length l.jumps ≡ 7;
  each : (j : ℕ) → j < l.k → get_or l.jumps j false ≡ get_or l.truths (l.from + j) false;
}
