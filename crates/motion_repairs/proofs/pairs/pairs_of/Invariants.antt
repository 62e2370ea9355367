use Rattle.std.proofs.Common.{◌≡◌, ◌++◌, length}
use Rattle.motion_repairs.specs.Pairs.{pairs_of}
use Rattle.motion_repairs.proofs.pairs.pairs_of.Given as goal

abbrev pub invariant-names : goal.invariant-names
invariant-names l = l.out.items ++ pairs_of l.rest ≡ pairs_of l.names

abbrev pub decreases-names : goal.decreases-names
decreases-names l = length l.rest
