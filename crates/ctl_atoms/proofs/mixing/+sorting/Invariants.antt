use Rattle.std.proofs.Common.{◌≡◌, drop, map}
use Rattle.ctl_atoms.specs.Mixing.{any, branch_sort, either, guards, sort, values}
use Rattle.ctl_atoms.proofs.mixing.+sorting.Given as goal

abbrev pub invariant-sort_of_all-loop-t : goal.invariant-sort_of_all-loop-t
invariant-sort_of_all-loop-t l = either l.out (any (map (sort l.rows) (drop l.t-index l.all))) ≡ any (map (sort l.rows) l.all)

abbrev pub invariant-sort_of_guards-loop-branch : goal.invariant-sort_of_guards-loop-branch
invariant-sort_of_guards-loop-branch l = either l.out (any (guards (map (branch_sort l.rows) (drop l.branch-index l.all)))) ≡ any (guards (map (branch_sort l.rows) l.all))

abbrev pub invariant-sort_of_values-loop-branch : goal.invariant-sort_of_values-loop-branch
invariant-sort_of_values-loop-branch l = either l.out (any (values (map (branch_sort l.rows) (drop l.branch-index l.all)))) ≡ any (values (map (branch_sort l.rows) l.all))
