use Rattle.std.proofs.Common.{◌≡◌, ◌++◌, drop}
use Rattle.motion_repairs.specs.Pairs.{combinations}
use Rattle.motion_repairs.proofs.pairs.combinations.Given as goal

abbrev pub invariant-loop-first : goal.invariant-loop-first
invariant-loop-first l = l.out.items ++ combinations (drop l.first-index l.firsts) l.seconds ≡ combinations l.firsts l.seconds
