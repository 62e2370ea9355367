use Rattle.std.proofs.Common.{◌≡◌, ◌<◌, ℕ}
use Rattle.yis_run.specs.Report.{aligned_word}
use Rattle.cosimulation.proofs.states.memory_difference.Given as goal

abbrev pub invariant-loop-n : goal.invariant-loop-n
invariant-loop-n l = (k : ℕ) → k < l.n → aligned_word l.one k ≡ aligned_word l.other k
