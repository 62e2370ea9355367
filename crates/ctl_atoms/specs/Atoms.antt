-- The atoms of a design, and why it may have none.
use Rattle.std.specs.Prelude.{ℕ, ◌≡◌, ◌≤◌, ◌<◌, true, false, if◌then◌else◌, List, [], ◌∷◌, ◌++◌, map, length, Option, Some, None}
use Rattle.hcl_types.specs.declared.term.Term.{Term}
use Rattle.hcl_types.specs.declared.table.Row.{Row}
use Rattle.hcl_types.specs.Equations.{IsSolution}
use Rattle.ctl_atoms.specs.declared.leaf.Leaf.{Leaf}
use Rattle.ctl_atoms.specs.declared.leaf.Atom.{Atom}
use Rattle.ctl_atoms.specs.declared.fault.CtlFault.{CtlFault}
use Rattle.ctl_atoms.specs.declared.fault.CtlFault.TheVariants as fault
use Rattle.ctl_atoms.specs.Leaves.{has_atom}
use Rattle.ctl_atoms.specs.TermAtoms.{atoms_of_all, term_atoms}
use Rattle.ctl_atoms.specs.Rows.{leaf_rule}
use Rattle.ctl_atoms.specs.Mixing.{mixes}

-- the list with an atom, if there is one, added at its end if it isn't there yet
abbrev pub with_atom : List Atom → Option Atom → List Atom
with_atom out None = out
with_atom out (Some a) = if has_atom out a then out else out ++ a ∷ []

unfoldable pub added : List Atom → List (Option Atom) → List Atom
added out [] = out
added out (a ∷ more) = added (with_atom out a) more

-- the atoms of the definitions in order of first appearance
abbrev pub atoms_of : (ℕ → List Leaf) → List Term → List Atom
atoms_of leaves terms = added [] (atoms_of_all (map (term_atoms leaves) terms))

-- No definition mixes Code with Value, and the list is that of all atoms, at most 64.
pub record AreAtoms (rows : List Row) (terms : List Term) (atoms : List Atom) : Type 0 where
  pub pure : (n : ℕ) → mixes rows terms n ≡ false
  pub few : length atoms ≤ 64
  pub are : (leaves : ℕ → List Leaf) → IsSolution (leaf_rule rows terms) leaves → atoms ≡ atoms_of leaves terms

-- the first row, in table order, whose definition mixes Code with Value
pub record IsFirstMixed (rows : List Row) (terms : List Term) (n : ℕ) : Type 0 where
  pub mixed : mixes rows terms n ≡ true
  pub first : (m : ℕ) → m < n → mixes rows terms m ≡ false

-- No definition mixes Code with Value, and there are more than 64 atoms.
pub record IsOver64 (rows : List Row) (terms : List Term) : Type 0 where
  pub pure : (n : ℕ) → mixes rows terms n ≡ false
  pub many : (leaves : ℕ → List Leaf) → IsSolution (leaf_rule rows terms) leaves → 64 < length (atoms_of leaves terms)

abbrev pub IsCtlFault : List Row → List Term → CtlFault → Type 0
IsCtlFault rows terms (fault.Mixed n) = IsFirstMixed rows terms n
IsCtlFault rows terms fault.AtomsOver64 = IsOver64 rows terms
IsCtlFault rows terms fault.Memory = Unit {0}
