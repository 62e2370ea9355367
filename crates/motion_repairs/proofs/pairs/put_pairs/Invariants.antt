use Rattle.std.proofs.Common.{◌≡◌, ◌++◌, drop}
use Rattle.motion_repairs.specs.Pairs.{pairs_with}
use Rattle.motion_repairs.proofs.pairs.put_pairs.Given as goal

abbrev pub invariant-loop-second : goal.invariant-loop-second
invariant-loop-second l = l.out.items ++ pairs_with l.first (drop l.second-index l.seconds) ≡ l.fn.out.items ++ pairs_with l.first l.seconds
