-- The part of a net whose valuations begin with given bits.
use Rattle.std.specs.Prelude.{ℕ, ◌<◌, ◌≤◌, Bool, false, List, ◌≡◌, length, get_or}
use Rattle.nets.specs.Nets.{Gates, truth}
use Rattle.nets.specs.declared.copies.Replacement.{Replacement}
use Rattle.nets.specs.declared.copies.Replacement.TheVariants.{Const, Var}
use Rattle.nets.specs.declared.copies.SubstitutedNet.{SubstitutedNet}

-- a valuation begins with these bits
abbrev pub BeginsWith : List Bool → List Bool → Type 0
BeginsWith fixed w = (i : ℕ) → i < length fixed → get_or w i false ≡ get_or fixed i false

-- under u the gates of the copy have the truths that those of the net have under w
abbrev pub HasSameTruths : Gates → SubstitutedNet → List Bool → List Bool → Type 0
HasSameTruths n s w u = (i : ℕ) → i < length n.gates → truth s.net (get_or s.gates i 0) u ≡ truth n i w

-- The copy represents the valuations of the net that begin with these bits: each valuation of the copy has one of them
-- with the same truths, and each of them has one of the copy.
pub record IsCofactorNet (n : Gates) (fixed : List Bool) (s : SubstitutedNet) : Type 0 where
  pub vars : s.net.vars ≡ n.vars
  pub size : length s.gates ≡ length n.gates
  pub inside : (i : ℕ) → i < length n.gates → get_or s.gates i 0 < length s.net.gates
  pub down : (u : List Bool) → length u ≡ n.vars → (w : List Bool) × (length w ≡ n.vars) × BeginsWith fixed w × HasSameTruths n s w u
  pub up : (w : List Bool) → length w ≡ n.vars → BeginsWith fixed w → (u : List Bool) × (length u ≡ n.vars) × HasSameTruths n s w u

-- a bit for each of the first variables, and for each other one its place in the order
abbrev pub IsSourceOf : List Bool → List ℕ → ℕ → Replacement → Type 0
IsSourceOf fixed order i (Const b) = (i < length fixed) × (b ≡ get_or fixed i false)
IsSourceOf fixed order i (Var x) = (length fixed ≤ i) × (x < length order) × (get_or order x 0 ≡ i)

pub record AreSourcesOf (fixed : List Bool) (order : List ℕ) (to : List Replacement) : Type 0 where
  pub each : (i : ℕ) → i < length to → IsSourceOf fixed order i (get_or to i (Const false))

-- variable i has neither a bit nor a place
pub record NotIn (fixed : List Bool) (order : List ℕ) (i : ℕ) : Type 0 where
  pub behind : length fixed ≤ i
  pub absent : (x : ℕ) → x < length order → get_or order x 0 ≡ i → ⊥

abbrev pub Lacks : List Bool → List ℕ → Type 0
Lacks fixed order = (i : ℕ) × (i < length order) × NotIn fixed order i
