use Rattle.std.proofs.Common.{◌≡◌, drop}
use Rattle.ctl_atoms.specs.TermAtoms.{joined}
use Rattle.ctl_atoms.proofs.leaves.put_leaves.Given as goal

abbrev pub invariant-loop-leaf : goal.invariant-loop-leaf
invariant-loop-leaf l = joined l.out.items (drop l.leaf-index l.leaves) ≡ joined l.fn.out.items l.leaves
