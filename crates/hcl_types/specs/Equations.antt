-- Equations without order, orders in which they can be computed, and the result of computing along one.
use Rattle.std.specs.Prelude.{◌≡◌, ◌⊎◌, ℕ, Bool, true, false, List, [], ◌∷◌, get_or}
use Rattle.std.specs.List.{AllByRecursion}
use Rattle.hcl_types.specs.Lists.{IsIn, IsApart}

-- f is a solution of the equations: each entry has the value that its rule gives; every rule may read any entry
abbrev pub IsSolution : {A : Type 0} → (ℕ → (ℕ → A) → A) → (ℕ → A) → Type 0
IsSolution rule f = (n : ℕ) → f n ≡ rule n f

-- Some rows need others (entry n: the rows that row n needs), and some are known from the start. A number past the rows
-- counts as known, and needs nothing.
abbrev pub needs_of : List (List ℕ) → ℕ → List ℕ
needs_of needs n = get_or needs n []

abbrev pub is_known : List Bool → ℕ → Bool
is_known known n = get_or known n true

-- each row of ids comes after all rows that it needs; the rows in done come before them all
abbrev pub IsOrdered : List (List ℕ) → List Bool → List ℕ → List ℕ → Type 0
IsOrdered needs known done [] = Unit {0}
IsOrdered needs known done (n ∷ ids) =
    AllByRecursion (λ m. (is_known known m ≡ true) ⊎ IsIn m done) (needs_of needs n) × IsOrdered needs known (n ∷ done) ids

-- each row that isn't known occurs in ids once, after all that it needs
pub record IsTopologicalOrder (needs : List (List ℕ)) (known : List Bool) (ids : List ℕ) : Type 0 where
  pub unknown : AllByRecursion (λ n. is_known known n ≡ false) ids
  pub apart : IsApart ids
  pub ordered : IsOrdered needs known [] ids
  pub whole : (n : ℕ) → is_known known n ≡ false → IsIn n ids

-- A store of entries: what is written at a place is read there, other places are unchanged, and no place disappears.
pub record IsStore (S : Type 0) (A : Type 0) (get : S → ℕ → A) (put : S → ℕ → A → S) (Has : S → ℕ → Type 0) : Type 0 where
  pub same : (s : S) (n : ℕ) (a : A) → Has s n → get (put s n a) n ≡ a
  pub other : (s : S) (n m : ℕ) (a : A) → (n ≡ m → ⊥) → get (put s n a) m ≡ get s m
  pub keeps : (s : S) (n m : ℕ) (a : A) → Has s m → Has (put s n a) m

-- the store after the rows of ids were computed, one after the other
abbrev pub evaluated_along : {S A : Type 0} → (S → ℕ → A) → (S → ℕ → A → S) → (ℕ → (ℕ → A) → A) → S → List ℕ → S
evaluated_along get put rule s [] = s
evaluated_along get put rule s (n ∷ ids) = evaluated_along get put rule (put s n (rule n (get s))) ids

-- rule n reads only what row n needs
abbrev pub IsLocal : {A : Type 0} → (ℕ → (ℕ → A) → A) → List (List ℕ) → Type 0
IsLocal {A} rule needs = (n : ℕ) (f g : ℕ → A) → AllByRecursion (λ m. f m ≡ g m) (needs_of needs n) → rule n f ≡ rule n g
