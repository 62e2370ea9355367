use Rattle.std.proofs.Common.{◌≡◌, ◌++◌, ◌-◌, ◌&&◌, List, Bool, length}
use Rattle.nets.specs.Nets.{ExtendsNet}
use Rattle.net_fields.specs.Spelling.{spelt}
use Rattle.ctl_atoms.specs.declared.leaf.Leaf.{Leaf}
use Rattle.ctl_atoms.specs.declared.leaf.Leaf.TheVariants.{Number}
use Rattle.ctl_atoms.specs.Leaves.{leaf_eq}
use Rattle.ctl_picks.specs.Picks.{Within, leaves_of}
use Rattle.ctl_picks.specs.TakenPicks.{at, leaf_taken}
use Rattle.ctl_given.proofs.Codes.{numbers, below}
use Rattle.ctl_given.proofs.given.code_picks.Given as goal

abbrev pub invariant-loop-k : goal.invariant-loop-k
invariant-loop-k l = record {
  begins : ExtendsNet l.fn.b l.b;
  within : Within (length l.b.gates) l.ps.items;
  leaves : leaves_of l.ps.items ++ numbers l.k (16 - l.k) ≡ numbers 0 16;
  is : (w : List Bool) (y : Leaf) → leaf_taken (at l.b w) l.ps.items y ≡ below l.k y && leaf_eq (Number (spelt w l.place.first l.place.bits)) y;
}
