use Rattle.std.proofs.Common.{◌≡◌, length}
use Rattle.bench.proofs.lanes.evaluated.Given as goal

abbrev pub invariant-loop-k : goal.invariant-loop-k
invariant-loop-k l = length l.s ≡ length l.net.gates
