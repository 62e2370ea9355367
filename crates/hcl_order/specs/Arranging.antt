-- The order of rows as it is built, one row at a time.
use Rattle.std.specs.Prelude.{ℕ, ◌≡◌, ◌+◌, ◌<◌, ◌≤◌, ◌⊎◌, Bool, true, false, List, [], ◌∷◌, length}
use Rattle.hcl_types.specs.Lists.{IsIn, IsApart}
use Rattle.hcl_types.specs.Equations.{IsTopologicalOrder, IsOrdered, is_known, needs_of}
use Rattle.hcl_order.specs.Dependence.{Depends}

-- a row is done if it is known from the start or is in the list
pub record IsArranged (needs : List (List ℕ)) (known done : List Bool) (ids : List ℕ) : Type 0 where
  pub size : length done ≡ length needs
  pub marked : (n : ℕ) → is_known done n ≡ true → (is_known known n ≡ true) ⊎ IsIn n ids
  pub listed : (n : ℕ) → IsIn n ids → (is_known known n ≡ false) × (is_known done n ≡ true)
  pub started : (n : ℕ) → is_known known n ≡ true → is_known done n ≡ true
  pub apart : IsApart ids
  pub ordered : IsOrdered needs known [] ids

-- an order, or some row depends on itself
pub record Arranges (needs : List (List ℕ)) (known : List Bool) (ids : List ℕ) (whole : Bool) : Type 0 where
  pub order : whole ≡ true → IsTopologicalOrder needs known ids
  pub stuck : whole ≡ false → (n : ℕ) × Depends (needs_of needs) n n

-- the rows that are not done
abbrev pub undone : List Bool → ℕ
undone [] = 0
undone (true ∷ rest) = undone rest
undone (false ∷ rest) = undone rest + 1

-- a pass over the first `rows` rows: it has done some, or each of them that isn't done needs one that isn't
pub record IsPassed (needs : ℕ → List ℕ) (rows : ℕ) (old new : List Bool) (added : Bool) : Type 0 where
  pub size : length new ≡ length old
  pub same : added ≡ false → new ≡ old
  pub no_more : undone new ≤ undone old
  pub fewer : added ≡ true → undone new < undone old
  pub stuck : added ≡ false → (n : ℕ) → n < rows → is_known new n ≡ false → (m : ℕ) × IsIn m (needs n) × (is_known new m ≡ false)
