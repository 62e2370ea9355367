-- Leaves, atoms, and the meaning of terms whose values are leaves.
use Rattle.std.specs.Prelude.{ℕ, ◌+◌, Bool, true, false, not, ◌&&◌, ◌||◌, if◌then◌else◌, List, [], ◌∷◌, ◌≡◌, nat_eq, nat_lt, Option, Some, None, slice_get, get_or}
use Rattle.hcl_tree.specs.declared.tree.CmpOp.{CmpOp}
use Rattle.hcl_tree.specs.declared.tree.CmpOp.TheVariants as op
use Rattle.hcl_types.specs.Terms.{Interpretation, signed_below}
use Rattle.ctl_atoms.specs.declared.leaf.Leaf.{Leaf}
use Rattle.ctl_atoms.specs.declared.leaf.Leaf.TheVariants.{Name, Number}
use Rattle.ctl_atoms.specs.declared.leaf.AtomKind.{AtomKind}
use Rattle.ctl_atoms.specs.declared.leaf.AtomKind.TheVariants as kind
use Rattle.ctl_atoms.specs.declared.leaf.Atom.{Atom}

abbrev pub leaf_eq : Leaf → Leaf → Bool
leaf_eq (Name x) (Name y) = nat_eq x y
leaf_eq (Name x) (Number y) = false
leaf_eq (Number x) (Name y) = false
leaf_eq (Number x) (Number y) = nat_eq x y

abbrev pub kind_eq : AtomKind → AtomKind → Bool
kind_eq kind.Lt kind.Lt = true
kind_eq kind.Lt kind.Eq = false
kind_eq kind.Eq kind.Lt = false
kind_eq kind.Eq kind.Eq = true

abbrev pub atom_eq : Atom → Atom → Bool
atom_eq a b = kind_eq a.kind b.kind && leaf_eq a.left b.left && leaf_eq a.right b.right

-- a truth for each possible atom
abbrev pub Assignment : Type 0
Assignment = AtomKind → Leaf → Leaf → Bool

-- the atom of `x < y`: none for two constants, and none for a leaf with itself
abbrev pub open_lt : Leaf → Leaf → Option Atom
open_lt (Number x) (Number y) = None
open_lt (Number x) (Name y) = Some (record { kind = kind.Lt; left = Number x; right = Name y })
open_lt (Name x) (Number y) = Some (record { kind = kind.Lt; left = Name x; right = Number y })
open_lt (Name x) (Name y) = if nat_eq x y then None else Some (record { kind = kind.Lt; left = Name x; right = Name y })

-- the atom of `x == y`, the earlier side first: names in table order before constants
abbrev pub open_eq : Leaf → Leaf → Option Atom
open_eq (Number x) (Number y) = None
open_eq (Number x) (Name y) = Some (record { kind = kind.Eq; left = Name y; right = Number x })
open_eq (Name x) (Number y) = Some (record { kind = kind.Eq; left = Name x; right = Number y })
open_eq (Name x) (Name y) =
    if nat_eq x y then None
    else (if nat_lt x y then Some (record { kind = kind.Eq; left = Name x; right = Name y })
    else Some (record { kind = kind.Eq; left = Name y; right = Name x }))

-- the truth of `x < y` if there is no atom: constants compare as signed words, and no leaf is below itself
abbrev pub decided_lt : Leaf → Leaf → Bool
decided_lt (Number x) (Number y) = signed_below x y
decided_lt (Number x) (Name y) = false
decided_lt (Name x) y = false

-- the truth of a comparison: that of its atom, or the one decided at once
abbrev pub answered : Assignment → Option Atom → Bool → Bool
answered α None b = b
answered α (Some a) b = α a.kind a.left a.right

abbrev pub leaf_lt : Assignment → Leaf → Leaf → Bool
leaf_lt α x y = answered α (open_lt x y) (decided_lt x y)

abbrev pub leaf_same : Assignment → Leaf → Leaf → Bool
leaf_same α x y = answered α (open_eq x y) (leaf_eq x y)

-- each operator by `<` and `==`: `x > y` is `y < x`, `x <= y` is not `y < x`
abbrev pub by_op : {A B : Type 0} → (A → A → B) → (A → A → B) → (B → B) → CmpOp → A → A → B
by_op lt eq neg op.Eq x y = eq x y
by_op lt eq neg op.Ne x y = neg (eq x y)
by_op lt eq neg op.Lt x y = lt x y
by_op lt eq neg op.Le x y = neg (lt y x)
by_op lt eq neg op.Gt x y = lt y x
by_op lt eq neg op.Ge x y = neg (lt x y)

-- the atom of a comparison, and its truth
abbrev pub open_atom : CmpOp → Leaf → Leaf → Option Atom
open_atom = by_op open_lt open_eq (λ a. a)

abbrev pub leaf_cmp : Assignment → CmpOp → Leaf → Leaf → Bool
leaf_cmp α = by_op (leaf_lt α) (leaf_same α) not

-- a value other than 0 is true
abbrev pub leaf_holds : Assignment → Leaf → Bool
leaf_holds α x = not (leaf_same α x (Number 0))

-- the meaning of a term is the leaf or constant that it picks, with comparisons decided by atoms
abbrev pub leaf_meaning : Assignment → Interpretation Leaf
leaf_meaning α = record {
  num = Number;
  bool = λ b. Number (if b then 1 else 0);
  holds = leaf_holds α;
  cmp = leaf_cmp α;
}

abbrev pub has_atom : List Atom → Atom → Bool
has_atom [] a = false
has_atom (b ∷ bs) a = atom_eq b a || has_atom bs a

-- the atom, if there is one, is in the list
abbrev pub is_listed : List Atom → Option Atom → Bool
is_listed atoms None = true
is_listed atoms (Some a) = has_atom atoms a

-- the bits from `first` on are the truths that α gives the atoms
abbrev pub AtomsAre : List Atom → ℕ → List Bool → Assignment → Type 0
AtomsAre atoms first bits α = (k : ℕ) (a : Atom) → slice_get atoms k ≡ Some a → get_or bits (first + k) false ≡ α a.kind a.left a.right
