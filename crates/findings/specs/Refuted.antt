-- The obligations that are false somewhere, in the order of their numbers.
use Rattle.std.specs.Prelude.{ℕ, ◌≡◌, ◌≤◌, ◌<◌, ◌==◌, Bool, false, List, [], ◌∷◌}
use Rattle.std.specs.List.{AllByRecursion}
use Rattle.hcl_types.specs.Lists.{some}

-- Each number is above the one before it. The first is above `low`, and the last is at most `high`: so no number occurs
-- twice.
abbrev pub RiseWithin : {A : Type 0} → (A → ℕ) → ℕ → ℕ → List A → Type 0
RiseWithin number low high [] = low ≤ high
RiseWithin number low high (x ∷ xs) = (low < number x) × RiseWithin number (number x) high xs

-- whether obligation i is among those that are refuted
abbrev pub is_refuted : {A : Type 0} → (A → ℕ) → ℕ → List A → Bool
is_refuted {A} rule i all = some (λ (x : A). rule x == i) all

-- Exactly these of the obligations from 1 to `until` are false somewhere, and the others hold. Each occurs once, and
-- they are in the order of their numbers.
pub record AreAllRefuted {A : Type 0} (rule : A → ℕ) (IsRefutation : A → Type 0) (Holds : ℕ → Type 0) (until : ℕ) (all : List A) : Type 0 where
  pub each : AllByRecursion IsRefutation all
  pub rising : RiseWithin rule 0 until all
  pub others : (i : ℕ) → 1 ≤ i → i ≤ until → is_refuted rule i all ≡ false → Holds i
