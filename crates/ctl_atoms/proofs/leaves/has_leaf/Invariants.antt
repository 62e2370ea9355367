use Rattle.std.proofs.Common.{◌≡◌, drop}
use Rattle.ctl_atoms.specs.TermAtoms.{has_leaf}
use Rattle.ctl_atoms.proofs.leaves.has_leaf.Given as goal

abbrev pub invariant-loop-other : goal.invariant-loop-other
invariant-loop-other l = has_leaf (drop l.other-index l.leaves) l.leaf ≡ has_leaf l.leaves l.leaf
