use Rattle.std.proofs.Common.{length}
use Rattle.hcl_types.specs.Terms.{at}
use Rattle.hcl_compile.specs.Walks.{steps}
use Rattle.hcl_compile.proofs.Walked.{IsUnderWay}
use Rattle.hcl_compile.proofs.machine.walk_on.Given as goal

abbrev pub invariant-loop-place : goal.invariant-loop-place
invariant-loop-place l = IsUnderWay (at l.vals) (length l.vals) l.terms l.nodes l.target l.place

abbrev pub decreases-loop-place : goal.decreases-loop-place
decreases-loop-place l = steps l.place
