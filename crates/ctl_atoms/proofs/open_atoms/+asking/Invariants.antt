use Rattle.std.proofs.Common.{◌≡◌, drop, map}
use Rattle.ctl_atoms.specs.TermAtoms.{atoms_of_all, member_atoms, branch_atoms, term_atoms, branch_plan}
use Rattle.ctl_atoms.specs.Rows.{leaves_at}
use Rattle.ctl_atoms.specs.Atoms.{added}
use Rattle.ctl_atoms.proofs.open_atoms.+asking.Given as goal

abbrev pub invariant-put_open_atoms-loop-t : goal.invariant-put_open_atoms-loop-t
invariant-put_open_atoms-loop-t l = added l.out.items (atoms_of_all (map (term_atoms (leaves_at l.lists)) (drop l.t-index l.all))) ≡ added l.fn.out.items (atoms_of_all (map (term_atoms (leaves_at l.lists)) l.all))

abbrev pub invariant-put_members_asked-loop-t : goal.invariant-put_members_asked-loop-t
invariant-put_members_asked-loop-t l = added l.out.items (member_atoms l.lefts (map (term_atoms (leaves_at l.lists)) (drop l.t-index l.all))) ≡ added l.fn.out.items (member_atoms l.lefts (map (term_atoms (leaves_at l.lists)) l.all))

abbrev pub invariant-put_branches_asked-loop-branch : goal.invariant-put_branches_asked-loop-branch
invariant-put_branches_asked-loop-branch l = added l.out.items (branch_atoms (map (branch_plan (leaves_at l.lists)) (drop l.branch-index l.all))) ≡ added l.fn.out.items (branch_atoms (map (branch_plan (leaves_at l.lists)) l.all))
