-- The truths of atoms and the numbers of fields at a valuation, and the case that a definition takes there.
use Rattle.std.specs.Prelude.{ℕ, ◌+◌, ◌≤◌, Bool, false, if◌then◌else◌, List, [], ◌∷◌, get_or, slice_get, Option, Some, None}
use Rattle.std.specs.List.{AllByRecursion}
use Rattle.hcl_types.specs.declared.term.Term.{Term, out-Term}
use Rattle.hcl_types.specs.declared.term.Term.TheOpen.{Term-F}
use Rattle.hcl_types.specs.declared.term.TermBranch.{TermBranch}
use Rattle.hcl_types.specs.declared.table.Row.{Row}
use Rattle.hcl_types.specs.Terms.{value}
use Rattle.ctl_atoms.specs.declared.leaf.Leaf.{Leaf}
use Rattle.ctl_atoms.specs.declared.leaf.Leaf.TheVariants.{Number}
use Rattle.ctl_atoms.specs.declared.leaf.Atom.{Atom}
use Rattle.ctl_atoms.specs.Leaves.{Assignment, atom_eq, leaf_holds, leaf_meaning}
use Rattle.net_fields.specs.declared.field_specs.FieldSpec.{FieldSpec}
use Rattle.net_fields.specs.FieldSpecs.{decoded, number_among, total}
use Rattle.ctl_equations.specs.Controls.{row_leaf}
use Rattle.control_values.specs.declared.scope.Scope.{Scope}

-- an atom's truth, if the first atom has bit number first: the bit of its place in the list, and false if it isn't
-- listed
abbrev pub truth_from : ℕ → List Atom → List Bool → Atom → Bool
truth_from first [] w atom = false
truth_from first (a ∷ atoms) w atom = if atom_eq a atom then get_or w first false else truth_from (first + 1) atoms w atom

-- the truths of atoms by the bits from `first` on
abbrev pub assigned : List Atom → ℕ → List Bool → Assignment
assigned atoms first w kind left right = truth_from first atoms w (record { kind = kind; left = left; right = right })

-- the truths of a scope's atoms
abbrev pub truths_in : Scope → Assignment
truths_in s = assigned s.atoms.now s.first s.bits.now

-- a leaf for each name, 0 past the end
abbrev pub at : List Leaf → ℕ → Leaf
at leaves n = get_or leaves n (Number 0)

-- the number that the bits give each name that is a field of the table, and 0 for any other
abbrev pub field_at : List FieldSpec → List Bool → ℕ → ℕ
field_at fields w n = number_among fields (decoded fields 0 w) n

-- the first case whose guard is true, from the k-th on
abbrev pub taken_from : Assignment → (ℕ → Leaf) → ℕ → List TermBranch → Option ℕ
taken_from α cv k [] = None
taken_from α cv k (b ∷ bs) = if leaf_holds α (value (leaf_meaning α) cv b.guard) then Some k else taken_from α cv (k + 1) bs

-- the case that a definition takes: in a case list, the first whose guard is true, counted from 0; no other definition
-- has cases
abbrev pub taken_in : Assignment → (ℕ → Leaf) → Term-F Term TermBranch → Option ℕ
taken_in α cv (Term-F.Num n) = None
taken_in α cv (Term-F.Name id) = None
taken_in α cv (Term-F.Not x) = None
taken_in α cv (Term-F.And xs) = None
taken_in α cv (Term-F.Or xs) = None
taken_in α cv (Term-F.Cmp o x y) = None
taken_in α cv (Term-F.In x ys) = None
taken_in α cv (Term-F.Case branches) = taken_from α cv 0 branches

abbrev pub taken : Assignment → (ℕ → Leaf) → Term → Option ℕ
taken α cv t = taken_in α cv (out-Term t)

-- the leaf of row n if it isn't defined, and 0 otherwise
abbrev pub given_leaf : (ℕ → ℕ) → List Row → ℕ → Leaf
given_leaf field rows n = row_leaf field n (slice_get rows n) (Number 0)

-- fields of at most 4 bits each, and at most 1000 bits together
pub record AreNear (fields : List FieldSpec) : Type 0 where
  pub few : AllByRecursion (λ (s : FieldSpec). s.bits ≤ 4) fields
  pub near : total fields ≤ 1000
