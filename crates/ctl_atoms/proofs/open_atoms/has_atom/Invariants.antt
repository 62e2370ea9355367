use Rattle.std.proofs.Common.{◌≡◌, drop}
use Rattle.ctl_atoms.specs.Leaves.{has_atom}
use Rattle.ctl_atoms.proofs.open_atoms.has_atom.Given as goal

abbrev pub invariant-loop-other : goal.invariant-loop-other
invariant-loop-other l = has_atom (drop l.other-index l.atoms) l.atom ≡ has_atom l.atoms l.atom
