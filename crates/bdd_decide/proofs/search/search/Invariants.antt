use Rattle.bdd_decide.specs.Splitting.{IsSearched}
use Rattle.bdd_decide.proofs.search.search.Given as goal

abbrev pub invariant-loop-p : goal.invariant-loop-p
invariant-loop-p g l = record { searched : IsSearched l.net l.gates l.cut.bits l.p l.so_far.place l.so_far.part }
