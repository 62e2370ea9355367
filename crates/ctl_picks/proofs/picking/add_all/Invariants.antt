use Rattle.std.proofs.Common.{◌≡◌, ◌&&◌, ◌||◌, Bool, List, drop, length}
use Rattle.ctl_atoms.specs.declared.leaf.Leaf.{Leaf}
use Rattle.nets.specs.Nets.{ExtendsNet, truth}
use Rattle.ctl_picks.specs.TakenPicks.{at, leaf_taken}
use Rattle.ctl_picks.specs.Picks.{Within, leaves_of}
use Rattle.ctl_atoms.specs.TermAtoms.{joined}
use Rattle.ctl_picks.proofs.picking.add_all.Given as goal

abbrev pub invariant-loop-p : goal.invariant-loop-p
invariant-loop-p l = record {
  begins : ExtendsNet l.fn.b l.b;
  within : Within (length l.b.gates) l.out.items;
  more : Within (length l.fn.b.gates) (drop l.p-index l.ps);
  leaves : joined (leaves_of l.out.items) (leaves_of (drop l.p-index l.ps)) ≡ joined (leaves_of l.fn.out.items) (leaves_of l.ps);
  is : (w : List Bool) (y : Leaf) →
      leaf_taken (at l.b w) l.out.items y || (truth l.fn.b l.here w && leaf_taken (at l.fn.b w) (drop l.p-index l.ps) y)
      ≡ leaf_taken (at l.fn.b w) l.fn.out.items y || (truth l.fn.b l.here w && leaf_taken (at l.fn.b w) l.ps y);
}
