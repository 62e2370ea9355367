use Rattle.std.proofs.Common.{◌≡◌, drop}
use Rattle.ctl_atoms.specs.Leaves.{has_atom}
use Rattle.ctl_atoms.proofs.leaf.position.Given as goal

abbrev pub invariant-loop-i : goal.invariant-loop-i
invariant-loop-i l = has_atom (drop l.i l.atoms) l.atom ≡ has_atom l.atoms l.atom
