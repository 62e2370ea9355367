use Rattle.std.proofs.Common.{◌≡◌, drop, map}
use Rattle.hcl_tree.specs.declared.tree.CmpOp.TheVariants.{Eq}
use Rattle.hcl_types.specs.Lists.{each, some}
use Rattle.hcl_types.specs.Terms.{branch_value, picked, value}
use Rattle.ctl_atoms.specs.declared.leaf.Leaf.TheVariants.{Number}
use Rattle.ctl_atoms.specs.Leaves.{leaf_cmp, leaf_holds, leaf_meaning}
use Rattle.control_values.specs.Given.{at, truths_in}
use Rattle.control_values.proofs.scope.Scope.+evaluation.Given as goal

abbrev pub invariant-each_holds-loop-t : goal.invariant-each_holds-loop-t
invariant-each_holds-loop-t l =
    let α = truths_in l.self in
    each (leaf_holds α) (map (value (leaf_meaning α) (at l.self.leaves.now)) (drop l.t-index l.all)) ≡ each (leaf_holds α) (map (value (leaf_meaning α) (at l.self.leaves.now)) l.all)

abbrev pub invariant-some_holds-loop-t : goal.invariant-some_holds-loop-t
invariant-some_holds-loop-t l =
    let α = truths_in l.self in
    some (leaf_holds α) (map (value (leaf_meaning α) (at l.self.leaves.now)) (drop l.t-index l.all)) ≡ some (leaf_holds α) (map (value (leaf_meaning α) (at l.self.leaves.now)) l.all)

abbrev pub invariant-some_equals-loop-t : goal.invariant-some_equals-loop-t
invariant-some_equals-loop-t l =
    let α = truths_in l.self in
    some (leaf_cmp α Eq l.left) (map (value (leaf_meaning α) (at l.self.leaves.now)) (drop l.t-index l.all)) ≡ some (leaf_cmp α Eq l.left) (map (value (leaf_meaning α) (at l.self.leaves.now)) l.all)

abbrev pub invariant-first_taken-loop-branch : goal.invariant-first_taken-loop-branch
invariant-first_taken-loop-branch l =
    let α = truths_in l.self in
    picked (leaf_holds α) (Number 0) (map (branch_value (leaf_meaning α) (at l.self.leaves.now)) (drop l.branch-index l.all))
    ≡ picked (leaf_holds α) (Number 0) (map (branch_value (leaf_meaning α) (at l.self.leaves.now)) l.all)
