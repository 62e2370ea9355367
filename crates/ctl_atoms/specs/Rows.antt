-- The leaves that each name of a table can pick.
use Rattle.std.specs.Prelude.{ℕ, List, [], ◌∷◌, length, take, Option, Some, None, slice_get, get_or}
use Rattle.hcl_types.specs.declared.term.Term.{Term}
use Rattle.hcl_types.specs.declared.table.Class.{Class}
use Rattle.hcl_types.specs.declared.table.Class.TheVariants as class
use Rattle.hcl_types.specs.declared.table.Role.{Role}
use Rattle.hcl_types.specs.declared.table.Role.TheVariants as role
use Rattle.hcl_types.specs.declared.table.Row.{Row}
use Rattle.hcl_types.specs.Tables.{defined, term_at}
use Rattle.ctl_atoms.specs.declared.leaf.Leaf.{Leaf}
use Rattle.ctl_atoms.specs.declared.leaf.Leaf.TheVariants.{Name, Number}
use Rattle.ctl_atoms.specs.TermAtoms.{term_atoms}

-- the term of a defined row: a design has them in table order
abbrev pub row_term : List Row → List Term → ℕ → Term
row_term rows terms n = term_at terms (length (defined (take n rows)))

-- the numbers of 4 bits
abbrev pub codes : List Leaf
codes = Number 0 ∷ Number 1 ∷ Number 2 ∷ Number 3 ∷ Number 4 ∷ Number 5 ∷ Number 6 ∷ Number 7
    ∷ Number 8 ∷ Number 9 ∷ Number 10 ∷ Number 11 ∷ Number 12 ∷ Number 13 ∷ Number 14 ∷ Number 15 ∷ []

-- a Code name of the state or the hardware can be each number of 4 bits, a Value name is itself; truths have no leaves
abbrev pub field_leaves : Class → ℕ → List Leaf
field_leaves class.Number n = Name n ∷ []
field_leaves class.Code n = codes
field_leaves class.Value n = Name n ∷ []
field_leaves class.Truth n = []

-- the leaves that a defined name can pick: those of its term
abbrev pub defined_leaves : Class → List Leaf → List Leaf
defined_leaves class.Number xs = xs
defined_leaves class.Code xs = xs
defined_leaves class.Value xs = xs
defined_leaves class.Truth xs = []

-- the leaves of row n; xs are those that its term can pick, if it has a term
abbrev pub leaves_by_role : Class → ℕ → Role → List Leaf → List Leaf
leaves_by_role class n (role.Constant c) xs = Number c ∷ []
leaves_by_role class n role.State xs = field_leaves class n
leaves_by_role class n (role.Hardware ids) xs = field_leaves class n
leaves_by_role class n role.Defined xs = defined_leaves class xs

abbrev pub leaves_of_row : Option Row → ℕ → List Leaf → List Leaf
leaves_of_row None n xs = []
leaves_of_row (Some row) n xs = leaves_by_role row.class n row.role xs

-- the equations of the leaves that each name can pick (to be solved by IsSolution)
abbrev pub leaf_rule : List Row → List Term → ℕ → (ℕ → List Leaf) → List Leaf
leaf_rule rows terms n leaves = leaves_of_row (slice_get rows n) n (term_atoms leaves (row_term rows terms n)).leaves

-- a list of leaves for each name, and none past the end of the lists
abbrev pub leaves_at : List (List Leaf) → ℕ → List Leaf
leaves_at lists n = get_or lists n []
