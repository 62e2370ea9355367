use Rattle.std.proofs.Common.{◌≡◌, drop}
use Rattle.ctl_picks.specs.Picks.{leaves_of}
use Rattle.ctl_atoms.specs.TermAtoms.{has_leaf}
use Rattle.ctl_picks.proofs.picking.place_of.Given as goal

abbrev pub invariant-loop-i : goal.invariant-loop-i
invariant-loop-i l = has_leaf (leaves_of (drop l.i l.ps)) l.leaf ≡ has_leaf (leaves_of l.ps) l.leaf
