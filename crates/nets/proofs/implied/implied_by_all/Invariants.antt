use Rattle.nets.specs.Forcing.{AreImplied}
use Rattle.nets.proofs.implied.implied_by_all.Given as goal

abbrev pub invariant-loop-k : goal.invariant-loop-k
invariant-loop-k l = record { implied : AreImplied l.n l.gates l.k l.marked.items }
