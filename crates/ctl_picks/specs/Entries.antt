-- What the entry of a name shows.
use Rattle.std.specs.Prelude.{ℕ, ◌<◌, Bool, not, List, ◌≡◌, Option, Some}
use Rattle.hcl_types.specs.declared.table.Class.{Class}
use Rattle.hcl_types.specs.Kinds.{is_truth}
use Rattle.ctl_atoms.specs.declared.leaf.Leaf.{Leaf}
use Rattle.ctl_picks.specs.declared.controls.Entry.{Entry}
use Rattle.ctl_picks.specs.declared.controls.Entry.TheVariants.{Absent, Truth, Picks}
use Rattle.ctl_atoms.specs.Leaves.{Assignment, leaf_holds}
use Rattle.ctl_picks.specs.Picks.{leaves_of, Within, entry_truth, entry_word, entry_picks}
use Rattle.ctl_picks.specs.TakenPicks.{IsOnlyTaken}

-- the leaves of a name's picks
abbrev pub entry_leaves : Option Entry → List Leaf
entry_leaves entry = leaves_of (entry_picks entry)

-- an entry fits a class, and its picks have these leaves
pub record IsEntryOf (class : Class) (leaves : List Leaf) (e : Entry) : Type 0 where
  pub truth : entry_truth (Some e) ≡ is_truth class
  pub word : entry_word (Some e) ≡ not (is_truth class)
  pub own : entry_leaves (Some e) ≡ leaves

-- the gates of an entry are gates of the net
abbrev pub EntryWithin : ℕ → Entry → Type 0
EntryWithin n Absent = Unit {0}
EntryWithin n (Truth g) = g < n
EntryWithin n (Picks ps) = Within n ps

abbrev pub EntryEncodes : (ℕ → Bool) → Assignment → Entry → Leaf → Type 0
EntryEncodes tr α Absent x = Unit {0}
EntryEncodes tr α (Truth g) x = tr g ≡ leaf_holds α x
EntryEncodes tr α (Picks ps) x = IsOnlyTaken tr ps x
