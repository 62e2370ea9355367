-- The truth of a gate, and what stays as a net grows.
use Rattle.std.specs.Prelude.{ℕ, ◌<◌, ◌≤◌, Bool, true, false, not, ◌&&◌, List, [], ◌∷◌, ◌++◌, ◌≡◌, ◌⊎◌, length, take, get_or, slice_get, Some}
use Rattle.nets.specs.declared.net.Gate.{Gate}
use Rattle.nets.specs.declared.net.Gate.TheVariants.{Const, Var, Not, And}

-- a net: its number of variables, and its gates
pub record Gates : Type 0 where
  pub vars : ℕ
  pub gates : List Gate

-- gate i reads only earlier gates, and variables below vars
pub record ReadsEarlier (vars i : ℕ) (gate : Gate) : Type 0 where
  pub variable : (x : ℕ) → gate ≡ Var x → x < vars
  pub inverted : (a : ℕ) → gate ≡ Not a → a < i
  pub left : (a b : ℕ) → gate ≡ And a b → a < i
  pub right : (a b : ℕ) → gate ≡ And a b → b < i

-- no gate reads itself or a later one
pub record IsNet (n : Gates) : Type 0 where
  pub earlier : (i : ℕ) (gate : Gate) → slice_get n.gates i ≡ Some gate → ReadsEarlier n.vars i gate

-- the truth of one gate under a valuation, given the truths of the earlier ones
abbrev pub gate_value : List Bool → List Bool → Gate → Bool
gate_value w earlier (Const b) = b
gate_value w earlier (Var x) = get_or w x false
gate_value w earlier (Not a) = not (get_or earlier a false)
gate_value w earlier (And a b) = get_or earlier a false && get_or earlier b false

-- two truths are the same
abbrev pub agree : Bool → Bool → Bool
agree true b = b
agree false b = not b

-- the truths of a list of gates that come after earlier ones
unfoldable pub values : List Bool → List Bool → List Gate → List Bool
values w earlier [] = earlier
values w earlier (g ∷ gs) = values w (earlier ++ gate_value w earlier g ∷ []) gs

-- the truths of all gates under a valuation
unfoldable pub truths : Gates → List Bool → List Bool
truths n w = values w [] n.gates

-- the truth of gate i under a valuation
unfoldable pub truth : Gates → ℕ → List Bool → Bool
truth n i w = get_or (truths n w) i false

-- the earlier gates stay, and each keeps its truth
pub record ExtendsNet (old new : Gates) : Type 0 where
  pub vars : new.vars ≡ old.vars
  pub more : length old.gates ≤ length new.gates
  pub gates : take (length old.gates) new.gates ≡ old.gates
  pub same : (g : ℕ) (w : List Bool) → g < length old.gates → truth new g w ≡ truth old g w

-- gate g of the net has the truth f
pub record IsGate (n : Gates) (g : ℕ) (f : List Bool → Bool) : Type 0 where
  pub within : g < length n.gates
  pub is : (w : List Bool) → truth n g w ≡ f w

-- a gate is added to a list, or the list stays as it is
abbrev pub IsAdded : List Gate → List Gate → Gate → Type 0
IsAdded old new gate = (new ≡ old) ⊎ (new ≡ old ++ gate ∷ [])
