use Rattle.bdd_decide.specs.Splitting.{AreSourcesIn}
use Rattle.bdd_decide.proofs.subproblems.sources_in.Given as goal

abbrev pub invariant-loop-i : goal.invariant-loop-i
invariant-loop-i l = record { sources : AreSourcesIn l.part.bits l.part.number l.i l.to.items }
