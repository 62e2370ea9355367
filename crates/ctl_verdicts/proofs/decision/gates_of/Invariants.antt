use Rattle.std.proofs.Common.{take}
use Rattle.ctl_verdicts.specs.Decisions.{AreTheirGates}
use Rattle.ctl_verdicts.proofs.decision.gates_of.Given as goal

abbrev pub invariant-loop-k : goal.invariant-loop-k
invariant-loop-k l = record { theirs : AreTheirGates (take l.k l.list) l.gates.items }
