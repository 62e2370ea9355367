-- Each leaf has one pick, and one of the gates is true.
use Rattle.std.specs.Prelude.{ℕ, ◌≡◌, Bool, false, IsTrue, List, [], ◌∷◌, Some, slice_get}
use Rattle.ctl_atoms.specs.declared.leaf.Leaf.{Leaf}
use Rattle.ctl_atoms.specs.Leaves.{Assignment, leaf_eq}
use Rattle.ctl_atoms.specs.TermAtoms.{has_leaf}
use Rattle.nets.specs.Nets.{Gates, truth}
use Rattle.ctl_picks.specs.declared.controls.Entry.{Entry}
use Rattle.ctl_picks.specs.declared.controls.Pick.{Pick}
use Rattle.ctl_picks.specs.Picks.{EncodesControls, has_picks, picks_of, leaves_of}

-- each leaf occurs once
abbrev pub Apart : List Leaf → Type 0
Apart [] = Unit {0}
Apart (x ∷ xs) = (has_leaf xs x ≡ false) × Apart xs

-- no two picks of a name have the same leaf
abbrev pub AreApart : List Entry → Type 0
AreApart ctl = (n : ℕ) → IsTrue (has_picks ctl n) → Apart (leaves_of (picks_of ctl n))

-- The gate of each pick is true exactly if its leaf is x, and one of the picks has the leaf x.
pub record HasOneTruePick (net : Gates) (ps : List Pick) (w : List Bool) (x : Leaf) : Type 0 where
  pub each : (k : ℕ) (p : Pick) → slice_get ps k ≡ Some p → truth net p.gate w ≡ leaf_eq x p.leaf
  pub one : (k : ℕ) × (p : Pick) × (slice_get ps k ≡ Some p) × (p.leaf ≡ x)

-- if gates encode control values, exactly one gate of a name's picks is true, that of the control value
abbrev pub OneGate : Type 0
OneGate = (net : Gates) (ctl : List Entry) (w : List Bool) (α : Assignment) (cv : ℕ → Leaf) → EncodesControls net ctl w α cv → AreApart ctl →
    (n : ℕ) → IsTrue (has_picks ctl n) → HasOneTruePick net (picks_of ctl n) w (cv n)
