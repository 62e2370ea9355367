use Rattle.std.proofs.Common.{◌≡◌, drop}
use Rattle.control_values.specs.Given.{at, taken_from, truths_in}
use Rattle.control_values.proofs.scope.taken_branch.Given as goal

abbrev pub invariant-loop-k : goal.invariant-loop-k
invariant-loop-k l = taken_from (truths_in l.scope) (at l.scope.leaves.now) l.k (drop l.k l.all)
    ≡ taken_from (truths_in l.scope) (at l.scope.leaves.now) 0 l.all
