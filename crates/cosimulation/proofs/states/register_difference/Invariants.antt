use Rattle.std.proofs.Common.{◌≡◌, ◌<◌, ℕ}
use Rattle.y86_base.specs.Registers.{register}
use Rattle.cosimulation.proofs.states.register_difference.Given as goal

abbrev pub invariant-loop-n : goal.invariant-loop-n
invariant-loop-n l = (k : ℕ) → k < l.n → register l.one k ≡ register l.other k
