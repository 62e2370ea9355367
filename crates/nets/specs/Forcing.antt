-- The variables that have one value wherever any of the given gates is false.
use Rattle.std.specs.Prelude.{ℕ, ◌<◌, Bool, true, false, List, ◌≡◌, length, get_or}
use Rattle.nets.specs.Nets.{Gates, truth}
use Rattle.nets.specs.Substitution.{AreSources, source_truth}
use Rattle.nets.specs.declared.copies.Replacement.{Replacement}
use Rattle.nets.specs.declared.copies.Replacement.TheVariants.{Const}

-- each marked gate is true under u
abbrev pub AreMarkedTrue : Gates → List Bool → List Bool → Type 0
AreMarkedTrue n marked u = (i : ℕ) → get_or marked i false ≡ true → truth n i u ≡ true

-- the marked gates are true wherever one of the first count gates of the list is false
pub record AreImplied (n : Gates) (gates : List ℕ) (count : ℕ) (marked : List Bool) : Type 0 where
  pub size : length marked ≡ length n.gates
  pub each : (k : ℕ) → k < count → (u : List Bool) → truth n (get_or gates k 0) u ≡ false → AreMarkedTrue n marked u

-- each marked gate is marked in both lists
pub record AreCommon (left right marked : List Bool) : Type 0 where
  pub size : length marked ≡ length left
  pub in_left : (i : ℕ) → get_or marked i false ≡ true → get_or left i false ≡ true
  pub in_right : (i : ℕ) → get_or marked i false ≡ true → get_or right i false ≡ true

-- what replaces each variable has its bit in u
abbrev pub SubstituteAgrees : List Replacement → List Bool → Type 0
SubstituteAgrees to u = (x : ℕ) → x < length to → source_truth u (get_or to x (Const false)) ≡ get_or u x false

-- what replaces each variable has its bit in every valuation under which one of the given gates is false
pub record IsForced (n : Gates) (gates : List ℕ) (to : List Replacement) : Type 0 where
  pub sources : AreSources n.vars to
  pub settle : (k : ℕ) → k < length gates → (u : List Bool) → truth n (get_or gates k 0) u ≡ false → SubstituteAgrees to u
