-- What the entry of a name shows stays true as the net grows.
use Rattle.std.proofs.Common.{Bool, List, ℕ, ◌≤◌, length, arith, ◌∙◌}
use Rattle.ctl_atoms.specs.declared.leaf.Leaf.{Leaf}
use Rattle.ctl_picks.specs.declared.controls.Entry.{Entry}
use Rattle.ctl_picks.specs.declared.controls.Entry.TheVariants.{Absent, Truth, Picks}
use Rattle.nets.specs.Nets.{Gates, ExtendsNet}
use Rattle.ctl_atoms.specs.Leaves.{Assignment}
use Rattle.ctl_picks.specs.TakenPicks.{at}
use Rattle.ctl_picks.specs.Entries.{EntryWithin, EntryEncodes}
use Rattle.ctl_picks.proofs.Inside.{within_more}
use Rattle.ctl_picks.proofs.Chosen.{picked_kept}

pub entry_within : (m n : ℕ) (e : Entry) → m ≤ n → EntryWithin m e → EntryWithin n e
entry_within m n Absent h x = tt
entry_within m n (Truth g) h x = omega arith
entry_within m n (Picks ps) h x = within_more m n ps h x

pub entry_shows : {a b : Gates} → ExtendsNet a b → (w : List Bool) (α : Assignment) (e : Entry) (x : Leaf) → EntryWithin (length a.gates) e → EntryEncodes (at a w) α e x → EntryEncodes (at b w) α e x
entry_shows k w α Absent x h s = tt
entry_shows k w α (Truth g) x h s = k.same g w h ∙ s
entry_shows k w α (Picks ps) x h s = picked_kept k w ps h x s
