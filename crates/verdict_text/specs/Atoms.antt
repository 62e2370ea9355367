-- The line of the atoms: each comparison that is left open, and its truth.
use Rattle.std.specs.Prelude.{ℕ, ◌+◌, Bool, true, false, codes, List, [], ◌∷◌, ◌++◌, get_or, slice_get, unwrap_or}
use Rattle.y86_base.specs.Numeral.{signed_decimal}
use Rattle.ctl_atoms.specs.declared.leaf.Atom.{Atom}
use Rattle.ctl_atoms.specs.declared.leaf.AtomKind.{AtomKind}
use Rattle.ctl_atoms.specs.declared.leaf.AtomKind.TheVariants.{Lt, Eq}
use Rattle.ctl_atoms.specs.declared.leaf.Leaf.{Leaf}
use Rattle.ctl_atoms.specs.declared.leaf.Leaf.TheVariants.{Name, Number}

-- a leaf: the name of its row, or a constant as HCL prints it
abbrev pub leaf_text : List (List ℕ) → Leaf → List ℕ
leaf_text names (Name id) = unwrap_or (slice_get names id) []
leaf_text names (Number n) = signed_decimal n

abbrev pub kind_text : AtomKind → List ℕ
kind_text Lt = codes " lt("
kind_text Eq = codes " eq("

abbrev pub truth_text : Bool → List ℕ
truth_text true = codes ")=1"
truth_text false = codes ")=0"

abbrev pub atom_text : List (List ℕ) → Atom → Bool → List ℕ
atom_text names a truth =
    kind_text a.kind ++ leaf_text names a.left ++ codes "," ++ leaf_text names a.right ++ truth_text truth

-- the atoms in order; their truths are the bits from the first one on
abbrev pub atoms_text : List (List ℕ) → List Bool → ℕ → List Atom → List ℕ
atoms_text names w first [] = []
atoms_text names w first (a ∷ more) = atom_text names a (get_or w first false) ++ atoms_text names w (first + 1) more

-- the line of all atoms; their bits follow those of the fields
unfoldable pub atoms_line : List (List ℕ) → List Bool → ℕ → List Atom → List ℕ
atoms_line names w first atoms = codes "atoms" ++ atoms_text names w first atoms ++ codes "\n"
