-- Gates and picks of names, and what they say about control values.
use Rattle.std.specs.Prelude.{ℕ, ◌<◌, ◌≡◌, Bool, true, false, IsTrue, ◌&&◌, List, [], length, map, get_or, Option, Some, None, slice_get}
use Rattle.std.specs.List.{AllByRecursion}
use Rattle.nets.specs.Nets.{Gates, truth}
use Rattle.hcl_types.specs.declared.table.Row.{Row}
use Rattle.hcl_types.specs.Kinds.{kinds_of_row}
use Rattle.hcl_types.specs.Lists.{some}
use Rattle.ctl_atoms.specs.declared.leaf.Leaf.{Leaf}
use Rattle.ctl_atoms.specs.Leaves.{Assignment, leaf_holds}
use Rattle.ctl_atoms.specs.declared.leaf.Leaf.TheVariants.{Name}
use Rattle.ctl_atoms.specs.TermAtoms.{has_leaf}
use Rattle.ctl_picks.specs.declared.controls.Pick.{Pick}
use Rattle.ctl_picks.specs.declared.controls.Entry.{Entry}
use Rattle.ctl_picks.specs.declared.controls.Entry.TheVariants.{Absent, Truth, Picks}

-- ---- what a name has

abbrev pub entry_truth : Option Entry → Bool
entry_truth None = false
entry_truth (Some Absent) = false
entry_truth (Some (Truth g)) = true
entry_truth (Some (Picks ps)) = false

abbrev pub entry_word : Option Entry → Bool
entry_word None = false
entry_word (Some Absent) = false
entry_word (Some (Truth g)) = false
entry_word (Some (Picks ps)) = true

abbrev pub entry_gate : Option Entry → ℕ
entry_gate None = 0
entry_gate (Some Absent) = 0
entry_gate (Some (Truth g)) = g
entry_gate (Some (Picks ps)) = 0

abbrev pub entry_picks : Option Entry → List Pick
entry_picks None = []
entry_picks (Some Absent) = []
entry_picks (Some (Truth g)) = []
entry_picks (Some (Picks ps)) = ps

-- name n has the gate of a truth, or picks
abbrev pub has_gate : List Entry → ℕ → Bool
has_gate ctl n = entry_truth (slice_get ctl n)

abbrev pub has_picks : List Entry → ℕ → Bool
has_picks ctl n = entry_word (slice_get ctl n)

abbrev pub gate_of : List Entry → ℕ → ℕ
gate_of ctl n = entry_gate (slice_get ctl n)

abbrev pub picks_of : List Entry → ℕ → List Pick
picks_of ctl n = entry_picks (slice_get ctl n)

-- each Truth name of the table has a gate, and each other name has picks
pub record Covers (rows : List Row) (ctl : List Entry) : Type 0 where
  pub gates : (n : ℕ) → has_gate ctl n ≡ (kinds_of_row (slice_get rows n)).truth
  pub picks : (n : ℕ) → has_picks ctl n ≡ (kinds_of_row (slice_get rows n)).word

-- ---- what gates say

abbrev pub leaves_of : List Pick → List Leaf
leaves_of ps = map (λ (p : Pick). p.leaf) ps

-- pick k has this leaf
pub record IsPlace (ps : List Pick) (k : ℕ) (leaf : Leaf) : Type 0 where
  pub within : k < length ps
  pub same : (get_or ps k (record { leaf = Name 0; gate = 0 })).leaf ≡ leaf
  pub has : has_leaf (leaves_of ps) leaf ≡ true

-- the gates of picks are among the first n
abbrev pub Within : ℕ → List Pick → Type 0
Within n ps = AllByRecursion (λ (p : Pick). p.gate < n) ps

-- some pick whose gate is true passes the test
abbrev pub some_pick : Gates → List Bool → (Leaf → Bool) → List Pick → Bool
some_pick net w test ps = some (λ (p : Pick). truth net p.gate w && test p.leaf) ps

-- all gates are gates of the net
pub record IsInside (net : Gates) (ctl : List Entry) : Type 0 where
  pub gates_in : (n : ℕ) → IsTrue (has_gate ctl n) → gate_of ctl n < length net.gates
  pub picks_in : (n : ℕ) → IsTrue (has_picks ctl n) → Within (length net.gates) (picks_of ctl n)

-- At a valuation w of the net the gates encode the control values cv: a gate is true exactly if its name is, and some
-- taken pick passes a test exactly if the control value of its name passes it.
pub record EncodesControls (net : Gates) (ctl : List Entry) (w : List Bool) (α : Assignment) (cv : ℕ → Leaf) : Type 0 where
  pub truths_are : (n : ℕ) → IsTrue (has_gate ctl n) → truth net (gate_of ctl n) w ≡ leaf_holds α (cv n)
  pub picks_are : (n : ℕ) → IsTrue (has_picks ctl n) → (test : Leaf → Bool) → some_pick net w test (picks_of ctl n) ≡ test (cv n)
