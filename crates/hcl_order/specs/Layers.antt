-- Rows marked by their distance from one row: 1 for the row itself, one more for each step, 0 if a row has no mark yet.
use Rattle.std.specs.Prelude.{ℕ, zero, suc, ◌≡◌, ◌≢◌, ◌+◌, ◌<◌, ◌≤◌, Bool, true, false, List, [], ◌∷◌, length, slice_index}
use Rattle.hcl_types.specs.Lists.{IsIn}
use Rattle.hcl_types.specs.Equations.{needs_of}

-- row a leads to row b in exactly this number of steps
abbrev pub Steps : (ℕ → List ℕ) → ℕ → ℕ → ℕ → Type 0
Steps needs zero a b = a ≡ b
Steps needs (suc k) a b = (c : ℕ) × IsIn c (needs a) × Steps needs k c b

-- the needs of each row are rows
abbrev pub IsWithin : List (List ℕ) → Type 0
IsWithin needs = (a n : ℕ) → IsIn n (needs_of needs a) → n < length needs

-- the rows without a mark
abbrev pub unmarked : List ℕ → ℕ
unmarked [] = 0
unmarked (zero ∷ marks) = unmarked marks + 1
unmarked (suc mark ∷ marks) = unmarked marks

-- a row's mark is the number of rows of a shortest walk to the target, and each row within `level` rows of the target
-- has one
pub record IsMarked (needs : ℕ → List ℕ) (target level : ℕ) (marks : List ℕ) : Type 0 where
  pub sound : (a j : ℕ) → slice_index marks a ≡ suc j → (suc j ≤ level) × Steps needs j a target
  pub complete : (a j : ℕ) → suc j ≤ level → Steps needs j a target → (0 < slice_index marks a) × (slice_index marks a ≤ suc j)

-- one more layer
pub record IsLayered (needs : ℕ → List ℕ) (level : ℕ) (old new : List ℕ) (added : Bool) (rows : ℕ) : Type 0 where
  pub size : length new ≡ length old
  pub kept : (a : ℕ) → 0 < slice_index old a → slice_index new a ≡ slice_index old a
  pub marked : (a : ℕ) → slice_index new a ≢ slice_index old a → (slice_index new a ≡ level + 1) × ((c : ℕ) × IsIn c (needs a) × (slice_index old c ≡ level))
  pub full : (a c : ℕ) → a < rows → IsIn c (needs a) → slice_index old c ≡ level → 0 < slice_index new a
  pub same : added ≡ false → new ≡ old
  pub no_more : unmarked new ≤ unmarked old
  pub fewer : added ≡ true → unmarked new < unmarked old

-- a shortest cycle through a row has this number of rows
pub record IsCycleLength (needs : ℕ → List ℕ) (row size : ℕ) (marks : List ℕ) : Type 0 where
  pub marked : IsMarked needs row size marks
  pub shortest : (j : ℕ) → suc j < size → Steps needs (suc j) row row → ⊥
  pub back : (c : ℕ) × IsIn c (needs row) × (slice_index marks c ≡ size)

-- the result of the search for a cycle through a row: its size, or 0 if there is none
pub record IsNearest (needs : ℕ → List ℕ) (row size : ℕ) (marks : List ℕ) : Type 0 where
  pub found : 0 < size → IsCycleLength needs row size marks
  pub none : size ≡ 0 → (j : ℕ) → Steps needs (suc j) row row → ⊥
