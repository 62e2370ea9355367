-- Nets in which a constant or another variable replaces each variable.
use Rattle.std.specs.Prelude.{ℕ, ◌<◌, Bool, false, List, ◌≡◌, length, map, get_or}
use Rattle.nets.specs.Nets.{Gates, IsGate, truth}
use Rattle.nets.specs.declared.copies.Replacement.{Replacement}
use Rattle.nets.specs.declared.copies.Replacement.TheVariants.{Const, Var}

-- the truth of a variable's replacement, under a valuation of the copy
abbrev pub source_truth : List Bool → Replacement → Bool
source_truth u (Const b) = b
source_truth u (Var x) = get_or u x false

-- the valuation of the net for a valuation of the copy
abbrev pub behind : List Replacement → List Bool → List Bool
behind to u = map (source_truth u) to

-- each variable that replaces another is one of the copy
pub record AreSources (vars : ℕ) (to : List Replacement) : Type 0 where
  pub within : (i x : ℕ) → i < length to → get_or to i (Const false) ≡ Var x → x < vars

-- each gate of a net has a gate of the copy, whose truth is that of the net's gate at the net's valuation
pub record AreCopies (n copy : Gates) (to : List Replacement) (gates : List ℕ) : Type 0 where
  pub each : (i : ℕ) → i < length gates → IsGate copy (get_or gates i 0) (λ u. truth n i (behind to u))
