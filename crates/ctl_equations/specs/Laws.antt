-- How control values relate to the values of a real cycle.
use Rattle.std.specs.Prelude.{ℕ, ◌≡◌, true, false, List, nat_eq, Some, None, slice_get}
use Rattle.std.specs.List.{AllByRecursion}
use Rattle.hcl_types.specs.declared.term.Term.{Term}
use Rattle.hcl_types.specs.declared.table.Row.{Row}
use Rattle.hcl_types.specs.Tables.{is_defined, inputs, IsOrderOf}
use Rattle.hcl_types.specs.Terms.{value, word_meaning, signed_below}
use Rattle.ctl_atoms.specs.declared.leaf.Leaf.{Leaf}
use Rattle.ctl_atoms.specs.declared.leaf.Leaf.TheVariants.{Name, Number}
use Rattle.ctl_atoms.specs.declared.leaf.AtomKind.TheVariants as kind
use Rattle.ctl_atoms.specs.Leaves.{Assignment}
use Rattle.ctl_atoms.specs.Rows.{row_term}
use Rattle.ctl_equations.specs.Controls.{AreControls}

-- control values exist
abbrev pub HasControls : List Row → List Term → (ℕ → ℕ) → Assignment → Type 0
HasControls rows terms field α = (cv : ℕ → Leaf) × AreControls rows terms field α cv

-- the word of a leaf, given the values of names
abbrev pub leaf_value : (ℕ → ℕ) → Leaf → ℕ
leaf_value f (Name n) = f n
leaf_value f (Number n) = n

-- the truths of atoms, by the values of names
abbrev pub real_assignment : (ℕ → ℕ) → Assignment
real_assignment f kind.Lt x y = signed_below (leaf_value f x) (leaf_value f y)
real_assignment f kind.Eq x y = nat_eq (leaf_value f x) (leaf_value f y)

-- f gives each defined row the value of its term, and 0 past the rows
pub record IsDefinedBy (rows : List Row) (terms : List Term) (f : ℕ → ℕ) : Type 0 where
  pub defined : (n : ℕ) (row : Row) → slice_get rows n ≡ Some row → is_defined row.role ≡ true → f n ≡ value word_meaning f (row_term rows terms n)
  pub past : (n : ℕ) → slice_get rows n ≡ None → f n ≡ 0

-- The control value of each row that isn't defined has the row's word; for a hardware row, if the same is true of the
-- rows that it depends on.
abbrev pub IsWorthGiven : List Row → (ℕ → ℕ) → (ℕ → Leaf) → Type 0
IsWorthGiven rows f cv =
    (n : ℕ) (row : Row) → slice_get rows n ≡ Some row → is_defined row.role ≡ false → AllByRecursion (λ m. leaf_value f (cv m) ≡ f m) (inputs row.role) → leaf_value f (cv n) ≡ f n

-- If comparisons are those of the values, and the given rows agree, each control value has the word of its name.
abbrev pub ControlsAgree : Type 0
ControlsAgree = (rows : List Row) (terms : List Term) (ids : List ℕ) (field : ℕ → ℕ) (f : ℕ → ℕ) (cv : ℕ → Leaf) →
    IsOrderOf rows terms ids → AreControls rows terms field (real_assignment f) cv → IsDefinedBy rows terms f → IsWorthGiven rows f cv →
    (n : ℕ) → leaf_value f (cv n) ≡ f n
