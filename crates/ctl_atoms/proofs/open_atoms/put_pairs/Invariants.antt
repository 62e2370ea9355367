use Rattle.std.proofs.Common.{◌≡◌, drop}
use Rattle.ctl_atoms.specs.TermAtoms.{pair_atoms}
use Rattle.ctl_atoms.specs.Atoms.{added}
use Rattle.ctl_atoms.proofs.open_atoms.put_pairs.Given as goal

abbrev pub invariant-loop-left : goal.invariant-loop-left
invariant-loop-left l = added l.out.items (pair_atoms l.op (drop l.left-index l.lefts) l.rights) ≡ added l.fn.out.items (pair_atoms l.op l.lefts l.rights)
