use Rattle.std.proofs.Common.{◌≡◌, take}
use Rattle.nets.specs.Substitution.{behind}
use Rattle.bdd_decide.proofs.least.carried.Given as goal

abbrev pub invariant-loop-i : goal.invariant-loop-i
invariant-loop-i l = record { bits : l.bits.items ≡ behind (take l.i l.to) l.u.bits }
