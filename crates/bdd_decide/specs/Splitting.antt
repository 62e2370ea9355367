-- Valuations by their first bits, and a search through them part by part: in part p of 2 ^ k are those whose first k bits spell p.
use Rattle.std.specs.Prelude.{◌≡◌, ℕ, ◌<◌, ◌≤◌, ◌^◌, nat_lt, Bool, true, false, List, length, get_or, if◌then◌else◌}
use Rattle.nets.specs.Nets.{Gates, truth}
use Rattle.net_fields.specs.Spelling.{spell, spelt}
use Rattle.nets.specs.Forcing.{SubstituteAgrees}
use Rattle.nets.specs.declared.copies.Replacement.{Replacement}
use Rattle.nets.specs.declared.copies.Replacement.TheVariants.{Const, Var}
use Rattle.bdd_decide.specs.Decisions.{IsAlwaysTrue, IsLeastOf}
use Rattle.bdd_decide.specs.declared.subproblems.Subproblem.{Subproblem}
use Rattle.bdd_decide.specs.declared.pass.PassResult.{PassResult}
use Rattle.bdd_decide.specs.declared.pass.PassResult.TheVariants as pass
use Rattle.bdd_decide.specs.declared.net_diagrams.NetDiagrams.{NetDiagrams}
use Rattle.bdd_core.specs.Building.{AreKnown}

-- a gate is false at a valuation
pub record IsGateFalseAt (n : Gates) (gate : ℕ) (w : List Bool) : Type 0 where
  pub size : length w ≡ n.vars
  pub fails : truth n gate w ≡ false

-- the gates before place m are true at every valuation
abbrev pub AreTrueTo : Gates → List ℕ → ℕ → Type 0
AreTrueTo n gates m = (j : ℕ) → j < m → IsAlwaysTrue n (get_or gates j 0)

-- a pass over gates finds all true, or reaches the first that is false at some valuation, or stops at one
abbrev pub IsPass : Gates → List ℕ → PassResult → Type 0
IsPass n gates pass.True = AreTrueTo n gates (length gates)
IsPass n gates (pass.False m) = (m < length gates) × AreTrueTo n gates m × (w : List Bool) × IsGateFalseAt n (get_or gates m 0) w
IsPass n gates (pass.Stopped m) = (m ≤ length gates) × AreTrueTo n gates m

-- a gate is true at each valuation in a part
abbrev pub IsTrueWhere : Gates → ℕ → ℕ → ℕ → Type 0
IsTrueWhere n gate k p = (w : List Bool) → length w ≡ n.vars → spelt w 0 k ≡ p → truth n gate w ≡ true

-- a valuation in a part, at which a gate is false
pub record IsFalseWhere (n : Gates) (gate k p : ℕ) (w : List Bool) : Type 0 where
  pub size : length w ≡ n.vars
  pub starts : spelt w 0 k ≡ p
  pub fails : truth n gate w ≡ false

-- the first count of the gates, by their numbers in a copy
pub record AreChosen (made gates : List ℕ) (count : ℕ) (chosen : List ℕ) : Type 0 where
  pub size : length chosen ≡ count
  pub each : (j : ℕ) → j < count → get_or chosen j 0 ≡ get_or made (get_or gates j 0) 0

-- Gates of a copy represent the first count gates of a net in a part: each is true at every valuation only if the other
-- is true in the part, and false at one only if the other is false in it. Part 0 by no bits is all valuations.
pub record IsSubproblemOf (n : Gates) (gates : List ℕ) (count k p : ℕ) (c : Subproblem) : Type 0 where
  pub size : length c.gates ≡ count
  pub inside : (j : ℕ) → j < count → get_or c.gates j 0 < length c.net.gates
  pub yes : (j : ℕ) → j < count → IsAlwaysTrue c.net (get_or c.gates j 0) → IsTrueWhere n (get_or gates j 0) k p
  pub no : (j : ℕ) → j < count → (u : List Bool) → IsGateFalseAt c.net (get_or c.gates j 0) u → (w : List Bool) × IsFalseWhere n (get_or gates j 0) k p w

-- the replacements of the variables in the copy for part p: bits for the first k variables, and the other variables
-- themselves
abbrev pub source_in : ℕ → ℕ → ℕ → Replacement
source_in k p i = if nat_lt i k then Const (get_or (spell k p) i false) else Var i

pub record AreSourcesIn (k p vars : ℕ) (to : List Replacement) : Type 0 where
  pub size : length to ≡ vars
  pub each : (i : ℕ) → i < vars → get_or to i (Const false) ≡ source_in k p i

-- a bit as it is, and each variable in its own place
abbrev pub own : Replacement → ℕ → Replacement
own (Const b) i = Const b
own (Var x) i = Var i

-- the bits among the first count replacements found, and each other variable in its own place
pub record AreOwn (found : List Replacement) (count : ℕ) (to : List Replacement) : Type 0 where
  pub size : length to ≡ count
  pub each : (i : ℕ) → i < count → get_or to i (Const false) ≡ own (get_or found i (Const false)) i

-- bits that variables have wherever a gate is false, and each other variable in its own place
pub record AreForcedBits (n : Gates) (gate : ℕ) (to : List Replacement) : Type 0 where
  pub size : length to ≡ n.vars
  pub own : (i x : ℕ) → i < n.vars → get_or to i (Const false) ≡ Var x → x ≡ i
  pub settle : (u : List Bool) → truth n gate u ≡ false → SubstituteAgrees to u

-- the least valuation of a part at which a gate is false
abbrev pub IsLeastIn : Gates → ℕ → ℕ → ℕ → List Bool → Type 0
IsLeastIn n gate k p = IsLeastOf n.vars (λ w. (spelt w 0 k ≡ p) × (truth n gate w ≡ false))

-- the result of a search through the parts before part `upto`: the gates before place m are true in them, and the gate
-- at m, if there is one, is false first in part p
pub record IsSearched (n : Gates) (gates : List ℕ) (k upto m p : ℕ) : Type 0 where
  pub within : m ≤ length gates
  pub earlier : (j : ℕ) → j < m → (q : ℕ) → q < upto → IsTrueWhere n (get_or gates j 0) k q
  pub small : m < length gates → p < 2 ^ k
  pub before : m < length gates → (q : ℕ) → q < p → IsTrueWhere n (get_or gates m 0) k q
  pub fails : m < length gates → (w : List Bool) × IsFalseWhere n (get_or gates m 0) k p w

-- the diagrams are right for the gates of the net
pub record AreDiagramsOf (n : Gates) (d : NetDiagrams) : Type 0 where
  pub vars : d.store.vars ≡ n.vars
  pub known : AreKnown d.store n d.built
