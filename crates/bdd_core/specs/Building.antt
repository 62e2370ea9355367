-- The diagrams of the gates of a net, one after another.
use Rattle.std.specs.Prelude.{ℕ, ◌<◌, Bool, true, false, not, ◌&&◌, List, ◌≡◌, length, get_or, slice_get, Some}
use Rattle.nets.specs.Nets.{Gates}
use Rattle.nets.specs.Nets.{truth as gate_truth}
use Rattle.nets.specs.declared.net.Gate.{Gate}
use Rattle.nets.specs.declared.net.Gate.TheVariants.{Const, Var, Not, And}
use Rattle.bdd_core.specs.Diagrams.{Diagrams, count, dia_truth}

-- the gates that a gate reads are marked
pub record ReadsMarked (needed : List Bool) (gate : Gate) : Type 0 where
  pub inverted : (a : ℕ) → gate ≡ Not a → get_or needed a false ≡ true
  pub left : (a b : ℕ) → gate ≡ And a b → get_or needed a false ≡ true
  pub right : (a b : ℕ) → gate ≡ And a b → get_or needed b false ≡ true

-- if a gate is marked, so are those that it reads
pub record IsCone (n : Gates) (needed : List Bool) : Type 0 where
  pub size : length needed ≡ length n.gates
  pub closed : (i : ℕ) (g : Gate) → slice_get n.gates i ≡ Some g → get_or needed i false ≡ true → ReadsMarked needed g

-- diagram d has the truth of gate j
pub record HasTruth (s : Diagrams) (n : Gates) (j d : ℕ) : Type 0 where
  pub within : d < count s
  pub is : (v : List Bool) → length v ≡ s.vars → dia_truth s d v ≡ gate_truth n j v

-- which gates of a net have diagrams, and the numbers of these
pub record KnownGates : Type 0 where
  pub known : List Bool
  pub made : List ℕ

-- the diagram of each gate that has one has its truth
pub record AreKnown (s : Diagrams) (n : Gates) (b : KnownGates) : Type 0 where
  pub size : length b.known ≡ length n.gates
  pub room : length b.made ≡ length n.gates
  pub each : (j : ℕ) → get_or b.known j false ≡ true → HasTruth s n j (get_or b.made j 0)

-- each gate that had a diagram still has one
abbrev pub KnowsAll : KnownGates → KnownGates → Type 0
KnowsAll old new = (j : ℕ) → get_or old.known j false ≡ true → get_or new.known j false ≡ true

-- the marked gates before gate i have diagrams
abbrev pub KnowsBefore : List Bool → KnownGates → ℕ → Type 0
KnowsBefore needed b i = (j : ℕ) → j < i → get_or needed j false ≡ true → get_or b.known j false ≡ true

-- the gates that a gate reads have diagrams
pub record AreMade (s : Diagrams) (made : List ℕ) (gate : Gate) : Type 0 where
  pub inverted : (a : ℕ) → gate ≡ Not a → get_or made a 0 < count s
  pub left : (a b : ℕ) → gate ≡ And a b → get_or made a 0 < count s
  pub right : (a b : ℕ) → gate ≡ And a b → get_or made b 0 < count s

-- the truth of a gate, from the diagrams of those that it reads
abbrev pub made_value : Diagrams → List ℕ → List Bool → Gate → Bool
made_value s made v (Const b) = b
made_value s made v (Var x) = get_or v x false
made_value s made v (Not a) = not (dia_truth s (get_or made a 0) v)
made_value s made v (And a b) = dia_truth s (get_or made a 0) v && dia_truth s (get_or made b 0) v

-- diagram d has the truth of the gate, from the diagrams of those that it reads
pub record IsMadeOf (old new : Diagrams) (made : List ℕ) (gate : Gate) (d : ℕ) : Type 0 where
  pub within : d < count new
  pub is : (v : List Bool) → length v ≡ new.vars → dia_truth new d v ≡ made_value old made v gate
