use Rattle.bdd_decide.specs.Splitting.{AreChosen}
use Rattle.bdd_decide.proofs.subproblems.chosen.Given as goal

abbrev pub invariant-loop-j : goal.invariant-loop-j
invariant-loop-j l = record { chosen : AreChosen l.made l.gates l.j l.chosen.items }
