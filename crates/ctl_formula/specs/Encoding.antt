-- The entries of the names of a table while their gates are made.
use Rattle.std.specs.Prelude.{ℕ, ◌<◌, ◌≡◌, ◌⊎◌, Bool, true, false, ◌||◌, IsTrue, List, [], length, Option, Some, slice_get}
use Rattle.nets.specs.Nets.{Gates}
use Rattle.hcl_types.specs.declared.term.Term.{Term}
use Rattle.hcl_types.specs.declared.table.Row.{Row}
use Rattle.hcl_types.specs.Equations.{IsSolution}
use Rattle.hcl_types.specs.Tables.{is_defined}
use Rattle.ctl_atoms.specs.declared.leaf.Leaf.{Leaf}
use Rattle.ctl_atoms.specs.declared.leaf.Atom.{Atom}
use Rattle.ctl_atoms.specs.Leaves.{Assignment, AtomsAre}
use Rattle.ctl_atoms.specs.Rows.{leaf_rule, leaves_by_role}
use Rattle.ctl_picks.specs.declared.controls.Entry.{Entry}
use Rattle.ctl_picks.specs.declared.controls.Entry.TheVariants.{Absent}
use Rattle.ctl_given.specs.declared.places.Place.{Place}
use Rattle.ctl_equations.specs.Controls.{AreControls, role_leaf}
use Rattle.ctl_picks.specs.Picks.{entry_truth, entry_word}
use Rattle.ctl_given.specs.Places.{Spells}
use Rattle.ctl_picks.specs.TakenPicks.{at}
use Rattle.ctl_picks.specs.Entries.{EntryEncodes, EntryWithin, IsEntryOf}

-- the entries of the first so_many rows before any definition is translated: each of these rows that isn't defined has
-- its gates
pub record IsInputEncoding (rows : List Row) (places : List Place) (so_many : ℕ) (net : Gates) (es : List Entry) : Type 0 where
  pub size : length es ≡ so_many
  pub within : (n : ℕ) (e : Entry) → slice_get es n ≡ Some e → EntryWithin (length net.gates) e
  pub absent : (n : ℕ) (row : Row) (e : Entry) → slice_get rows n ≡ Some row → slice_get es n ≡ Some e → is_defined row.role ≡ true → e ≡ Absent
  pub entries : (n : ℕ) (row : Row) (e : Entry) → slice_get rows n ≡ Some row → slice_get es n ≡ Some e → is_defined row.role ≡ false → IsEntryOf row.class (leaves_by_role row.class n row.role []) e
  pub shows : (w : List Bool) (α : Assignment) (field : ℕ → ℕ) (told : Leaf) → Spells places w field → (n : ℕ) (row : Row) (e : Entry) →
      slice_get rows n ≡ Some row → slice_get es n ≡ Some e → EntryEncodes (at net w) α e (role_leaf field n row.class row.role told)

-- there is a gate, or there are picks
abbrev pub is_filled : Option Entry → Bool
is_filled e = entry_truth e || entry_word e

-- Every entry made so far has its gates in the net, is of its row's kind with the leaves of its name, and shows the
-- control value.
pub record IsPartialEncoding (rows : List Row) (terms : List Term) (places : List Place) (listed : List Atom) (first : ℕ) (net : Gates) (es : List Entry) : Type 0 where
  pub size : length es ≡ length rows
  pub within : (n : ℕ) (e : Entry) → slice_get es n ≡ Some e → EntryWithin (length net.gates) e
  pub kinds : (leaves : ℕ → List Leaf) → IsSolution (leaf_rule rows terms) leaves → (n : ℕ) (row : Row) (e : Entry) →
      slice_get rows n ≡ Some row → slice_get es n ≡ Some e → (e ≡ Absent) ⊎ IsEntryOf row.class (leaves n) e
  pub shows : (w : List Bool) (α : Assignment) (field : ℕ → ℕ) (cv : ℕ → Leaf) → AtomsAre listed first w α → Spells places w field → AreControls rows terms field α cv →
      (n : ℕ) (e : Entry) → slice_get es n ≡ Some e → EntryEncodes (at net w) α e (cv n)

-- A partial encoding in which every row has a gate or picks.
pub record IsEncoding (rows : List Row) (terms : List Term) (places : List Place) (listed : List Atom) (first : ℕ) (net : Gates) (es : List Entry) : Type 0 where
  pub filling : IsPartialEncoding rows terms places listed first net es
  pub filled : (n : ℕ) → n < length rows → IsTrue (is_filled (slice_get es n))
