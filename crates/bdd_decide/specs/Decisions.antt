-- The decision on several gates of a net: all are true at every valuation, or there is a first one that is false at
-- some, and a least such valuation.
use Rattle.std.specs.Prelude.{◌≡◌, ℕ, ◌<◌, Bool, true, false, List, length, get_or, Option, Some, None}
use Rattle.nets.specs.Nets.{Gates, truth}
use Rattle.bdd_decide.specs.declared.decision.Counterexample.{Counterexample}

-- a gate is true at each valuation
abbrev pub IsAlwaysTrue : Gates → ℕ → Type 0
IsAlwaysTrue n gate = (w : List Bool) → length w ≡ n.vars → truth n gate w ≡ true

-- the truth b says whether a gate is true at each valuation
pub record IsDecided (n : Gates) (gate : ℕ) (b : Bool) : Type 0 where
  pub yes : b ≡ true → IsAlwaysTrue n gate
  pub no : b ≡ false → (w : List Bool) × (length w ≡ n.vars) × (truth n gate w ≡ false)

-- each truth says whether the gate at its place is true at each valuation
pub record AreDecided (n : Gates) (gates : List ℕ) (truths : List Bool) : Type 0 where
  pub each : (k : ℕ) → k < length truths → IsDecided n (get_or gates k 0) (get_or truths k false)

-- w is the least of the lists of vars bits with property F: where another one first differs from w, that one has 1 and
-- w has 0
pub record IsLeastOf (vars : ℕ) (F : List Bool → Type 0) (w : List Bool) : Type 0 where
  pub size : length w ≡ vars
  pub holds : F w
  pub least : (u : List Bool) → length u ≡ vars → F u → (y : ℕ) → y < vars → ((x : ℕ) → x < y → get_or w x false ≡ get_or u x false) →
      get_or u y false ≡ false → get_or w y false ≡ false

-- the gate at place k is false at the valuation w, and at no lesser one; the gates before it are true
pub record IsFirstFalseGate (n : Gates) (gates : List ℕ) (k : ℕ) (w : List Bool) : Type 0 where
  pub within : k < length gates
  pub earlier : (j : ℕ) → j < k → IsAlwaysTrue n (get_or gates j 0)
  pub least : IsLeastOf n.vars (λ u. truth n (get_or gates k 0) u ≡ false) w

abbrev pub IsGateDecision : Gates → List ℕ → Option Counterexample → Type 0
IsGateDecision n gates None = (k : ℕ) → k < length gates → IsAlwaysTrue n (get_or gates k 0)
IsGateDecision n gates (Some counter) = IsFirstFalseGate n gates counter.place counter.valuation.bits

-- each number is that of a gate of the net
abbrev pub AreGatesOfNet : Gates → List ℕ → Type 0
AreGatesOfNet n gates = (k : ℕ) → k < length gates → get_or gates k 0 < length n.gates
