-- The control values of a table's names, by equations without order.
use Rattle.std.specs.Prelude.{ℕ, List, Option, Some, None, slice_get}
use Rattle.hcl_types.specs.declared.term.Term.{Term}
use Rattle.hcl_types.specs.declared.table.Class.{Class}
use Rattle.hcl_types.specs.declared.table.Class.TheVariants as class
use Rattle.hcl_types.specs.declared.table.Role.{Role}
use Rattle.hcl_types.specs.declared.table.Role.TheVariants as role
use Rattle.hcl_types.specs.declared.table.Row.{Row}
use Rattle.hcl_types.specs.Equations.{IsSolution}
use Rattle.hcl_types.specs.Terms.{value}
use Rattle.ctl_atoms.specs.declared.leaf.Leaf.{Leaf}
use Rattle.ctl_atoms.specs.declared.leaf.Leaf.TheVariants.{Name, Number}
use Rattle.ctl_atoms.specs.Leaves.{Assignment, leaf_meaning}
use Rattle.ctl_atoms.specs.Rows.{row_term}

-- the leaf of a row of state or hardware: a Value name is itself, each other name is the number of its field
abbrev pub field_leaf : (ℕ → ℕ) → ℕ → Class → Leaf
field_leaf field n class.Number = Name n
field_leaf field n class.Code = Number (field n)
field_leaf field n class.Truth = Number (field n)
field_leaf field n class.Value = Name n

-- The control value of a row: a constant's is its number, those of state and hardware are their fields, and a defined
-- row's is that of its term, with comparisons answered by α and names by cv. Past the rows it is 0.
abbrev pub role_leaf : (ℕ → ℕ) → ℕ → Class → Role → Leaf → Leaf
role_leaf field n class (role.Constant k) told = Number k
role_leaf field n class role.State told = field_leaf field n class
role_leaf field n class (role.Hardware ids) told = field_leaf field n class
role_leaf field n class role.Defined told = told

abbrev pub row_leaf : (ℕ → ℕ) → ℕ → Option Row → Leaf → Leaf
row_leaf field n None told = Number 0
row_leaf field n (Some row) told = role_leaf field n row.class row.role told

-- the equation of row n; field gives the number of each Code or Truth name of the state or the hardware
unfoldable pub control_rule : List Row → List Term → (ℕ → ℕ) → Assignment → ℕ → (ℕ → Leaf) → Leaf
control_rule rows terms field α n cv = row_leaf field n (slice_get rows n) (value (leaf_meaning α) cv (row_term rows terms n))

-- cv gives the control value of each name
abbrev pub AreControls : List Row → List Term → (ℕ → ℕ) → Assignment → (ℕ → Leaf) → Type 0
AreControls rows terms field α cv = IsSolution (control_rule rows terms field α) cv
