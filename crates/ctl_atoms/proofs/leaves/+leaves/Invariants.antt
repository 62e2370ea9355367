use Rattle.std.proofs.Common.{◌≡◌, drop, map, []}
use Rattle.ctl_atoms.specs.TermAtoms.{case_leaves, branch_plan}
use Rattle.ctl_atoms.specs.Rows.{leaves_at}
use Rattle.ctl_atoms.proofs.leaves.+leaves.Given as goal

abbrev pub invariant-case_leaves-loop-branch : goal.invariant-case_leaves-loop-branch
invariant-case_leaves-loop-branch l = case_leaves l.out.items (map (branch_plan (leaves_at l.lists)) (drop l.branch-index l.all)) ≡ case_leaves [] (map (branch_plan (leaves_at l.lists)) l.all)
