use Rattle.std.proofs.Common.{◌≡◌, length}
use Rattle.lane_eval.proofs.search.copies.Given as goal

abbrev pub invariant-loop-k : goal.invariant-loop-k
invariant-loop-k g l = length l.v.items ≡ l._k
