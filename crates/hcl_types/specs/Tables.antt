-- Tables, designs and orders: when a table is sound, and when a design or an order belongs to it.
use Rattle.std.specs.Prelude.{◌≡◌, ◌<◌, ◌^◌, ◌+◌, ℕ, Bool, true, false, IsTrue, if◌then◌else◌, List, [], ◌∷◌, length, map, filter, get_or, slice_get, Some}
use Rattle.std.specs.List.{AllByRecursion}
use Rattle.hcl_types.specs.declared.term.Term.{Term}
use Rattle.hcl_types.specs.declared.term.Term.TheVariants.{Num}
use Rattle.hcl_types.specs.declared.table.Class.{Class}
use Rattle.hcl_types.specs.declared.table.Class.TheVariants.{Number, Code, Value, Truth}
use Rattle.hcl_types.specs.declared.table.Role.{Role}
use Rattle.hcl_types.specs.declared.table.Role.TheVariants.{Constant, State, Hardware, Defined}
use Rattle.hcl_types.specs.declared.table.Row.{Row}
use Rattle.hcl_types.specs.declared.table.BoundDesign.{BoundDesign}
use Rattle.hcl_types.specs.Lists.{IsApart}
use Rattle.hcl_types.specs.Terms.{names}
use Rattle.hcl_types.specs.Kinds.{has_class}
use Rattle.hcl_types.specs.Equations.{IsTopologicalOrder}

abbrev pub is_constant : Role → Bool
is_constant (Constant n) = true
is_constant State = false
is_constant (Hardware ids) = false
is_constant Defined = false

abbrev pub is_defined : Role → Bool
is_defined (Constant n) = false
is_defined State = false
is_defined (Hardware ids) = false
is_defined Defined = true

-- constants and state are known when a cycle begins
abbrev pub is_given : Role → Bool
is_given (Constant n) = true
is_given State = true
is_given (Hardware ids) = false
is_given Defined = false

abbrev pub is_number : Class → Bool
is_number Number = true
is_number Code = false
is_number Value = false
is_number Truth = false

-- the rows that hardware depends on
abbrev pub inputs : Role → List ℕ
inputs (Constant n) = []
inputs State = []
inputs (Hardware ids) = ids
inputs Defined = []

abbrev pub row_names : List Row → List (List ℕ)
row_names rows = map (λ (row : Row). row.name) rows

-- the rows that a file must define
abbrev pub defined : List Row → List Row
defined rows = filter (λ (row : Row). is_defined row.role) rows

-- The rows fit a u32; names differ; hardware depends only on rows of the table; exactly the constants have the class
-- Number.
pub record IsSound (rows : List Row) : Type 0 where
  pub few : length rows < 2 ^ 32
  pub apart : IsApart (row_names rows)
  pub inside : AllByRecursion (λ (row : Row). AllByRecursion (λ id. id < length rows) (inputs row.role)) rows
  pub numbers : AllByRecursion (λ (row : Row). is_number row.class ≡ is_constant row.role) rows

-- The term of the k-th defined row. A design that is bound has one for each.
abbrev pub term_at : List Term → ℕ → Term
term_at terms k = get_or terms k (Num 0)

-- One term for each defined row; each name in it is a row; it has its row's class.
pub record IsBound (rows : List Row) (terms : List Term) : Type 0 where
  pub whole : length terms ≡ length (defined rows)
  pub inside : AllByRecursion (λ t. AllByRecursion (λ id. id < length rows) (names t)) terms
  pub classes : (k : ℕ) (row : Row) → slice_get (defined rows) k ≡ Some row → IsTrue (has_class rows row.class (term_at terms k))

-- What each row needs: a defined row, the names in its term; hardware, its inputs. k counts the defined rows before
-- these.
abbrev pub needs_from : ℕ → List Row → List Term → List (List ℕ)
needs_from k [] terms = []
needs_from k (row ∷ rows) terms =
    (if is_defined row.role then names (term_at terms k) else inputs row.role) ∷
    needs_from (if is_defined row.role then k + 1 else k) rows terms

abbrev pub needs : List Row → List Term → List (List ℕ)
needs rows terms = needs_from 0 rows terms

abbrev pub known : List Row → List Bool
known rows = map (λ (row : Row). is_given row.role) rows

-- ids is an order of the design and the table: all defined and hardware rows, each once, each after all that it needs
abbrev pub IsOrderOf : List Row → List Term → List ℕ → Type 0
IsOrderOf rows terms ids = IsTopologicalOrder (needs rows terms) (known rows) ids

-- a table with these rows, a design over it, and an order of the design's signals
pub record IsBoundDesign (rows : List Row) (file : BoundDesign) : Type 0 where
  pub table : file.table.rows ≡ rows
  pub sound : IsSound rows
  pub bound : IsBound rows file.ordered.design.terms
  pub order : IsOrderOf rows file.ordered.design.terms file.ordered.order.ids
