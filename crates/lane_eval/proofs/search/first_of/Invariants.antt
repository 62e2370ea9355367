use Rattle.lane_eval.specs.Search.{holds_in}
use Rattle.lane_eval.proofs.Earliest.{IsBest}
use Rattle.lane_eval.proofs.search.first_of.Given as goal

abbrev pub invariant-loop-k : goal.invariant-loop-k
invariant-loop-k l = IsBest (holds_in l.s) l.list 512 l.k l.best l.number
