use Rattle.std.proofs.Common.{◌≡◌, drop, map}
use Rattle.ctl_atoms.specs.Leaves.{open_atom}
use Rattle.ctl_atoms.specs.Atoms.{added}
use Rattle.ctl_atoms.proofs.open_atoms.put_row.Given as goal

abbrev pub invariant-loop-right : goal.invariant-loop-right
invariant-loop-right l = added l.out.items (map (open_atom l.op l.left) (drop l.right-index l.rights)) ≡ added l.fn.out.items (map (open_atom l.op l.left) l.rights)
