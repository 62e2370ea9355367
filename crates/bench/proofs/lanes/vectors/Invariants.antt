use Rattle.std.proofs.Common.{◌≡◌, length}
use Rattle.bench.proofs.lanes.vectors.Given as goal

abbrev pub invariant-loop-k : goal.invariant-loop-k
invariant-loop-k l = length l.lanes.items ≡ l._k
