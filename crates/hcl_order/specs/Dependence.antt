-- What depends on what: a defined row needs all names in its term, in whatever branch; a hardware row needs the rows
-- that its table lists; a constant or a field of the state needs nothing.
use Rattle.std.specs.Prelude.{ℕ, ◌≡◌, ◌<◌, ◌≤◌, ◌⊎◌, List, [], ◌∷◌, length}
use Rattle.hcl_types.specs.Lists.{IsIn}

-- a path of needs: a needs the first row of the list, each row of the list the next, and the last one b
abbrev pub IsDependencePath : (ℕ → List ℕ) → ℕ → List ℕ → ℕ → Type 0
IsDependencePath needs a [] b = IsIn b (needs a)
IsDependencePath needs a (c ∷ between) b = IsIn c (needs a) × IsDependencePath needs c between b

-- a needs b, directly or through others
abbrev pub Depends : (ℕ → List ℕ) → ℕ → ℕ → Type 0
Depends needs a b = (between : List ℕ) × IsDependencePath needs a between b

-- the first list is no later than the second by table order: at the first position where they differ, the first one has
-- the earlier row
abbrev pub IsNoLater : List ℕ → List ℕ → Type 0
IsNoLater [] ys = Unit {0}
IsNoLater (x ∷ xs) [] = ⊥
IsNoLater (x ∷ xs) (y ∷ ys) = (x < y) ⊎ ((x ≡ y) × IsNoLater xs ys)

-- the first row that depends on itself, and the rows between on a way back to it: as few as possible, and the first by
-- table order among the ways with as few
pub record IsFirstCycle (needs : ℕ → List ℕ) (row : ℕ) (between : List ℕ) : Type 0 where
  pub walks : IsDependencePath needs row between row
  pub first : (n : ℕ) → n < row → Depends needs n n → ⊥
  pub shortest : (other : List ℕ) → IsDependencePath needs row other row → length between ≤ length other
  pub least : (other : List ℕ) → IsDependencePath needs row other row → length other ≡ length between → IsNoLater between other

abbrev pub FirstCycle : (ℕ → List ℕ) → List ℕ → Type 0
FirstCycle needs [] = ⊥
FirstCycle needs (row ∷ between) = IsFirstCycle needs row between
