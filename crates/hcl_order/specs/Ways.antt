-- A shortest way back to a row, chosen step by step along the marks.
use Rattle.std.specs.Prelude.{ℕ, zero, suc, ◌≡◌, ◌≤◌, List, [], ◌∷◌, slice_index}
use Rattle.hcl_types.specs.Lists.{IsIn}

-- starting at a row, each next row is the least need that is one step nearer; the last row needs the target
abbrev pub FollowsMarks : (ℕ → List ℕ) → List ℕ → ℕ → ℕ → ℕ → List ℕ → Type 0
FollowsMarks needs marks target zero a way = (way ≡ []) × IsIn target (needs a)
FollowsMarks needs marks target (suc k) a way =
    (c : ℕ) × (rest : List ℕ) × (way ≡ c ∷ rest) × IsIn c (needs a) × (slice_index marks c ≡ suc (suc k))
    × ((n : ℕ) → IsIn n (needs a) → slice_index marks n ≡ suc (suc k) → c ≤ n) × FollowsMarks needs marks target k c rest

-- a row, and the way back to it
abbrev pub IsCyclePath : (ℕ → List ℕ) → ℕ → List ℕ → ℕ → List ℕ → Type 0
IsCyclePath needs row marks size ids = (k : ℕ) × (way : List ℕ) × (size ≡ suc k) × (ids ≡ row ∷ way) × FollowsMarks needs marks row k row way
