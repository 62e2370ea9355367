-- What the public calls say about diagrams.
use Rattle.std.specs.Prelude.{ℕ, ◌<◌, Bool, true, false, List, ◌≡◌, ◌≢◌, length, get_or, set}
use Rattle.nets.specs.Nets.{Gates}
use Rattle.nets.specs.Nets.{truth as gate_truth}
use Rattle.bdd_core.specs.Diagrams.{Diagrams, count, dia_truth}
use Rattle.bdd_core.specs.declared.store.Dia.{Dia}
use Rattle.bdd_core.specs.declared.store.Node.{Node}
use Rattle.bdd_core.specs.declared.store.Node.TheVariants.{False, True, Choice}

abbrev pub IsDia : Diagrams → Dia → Type 0
IsDia s d = d.id < count s

-- the truth of a diagram
abbrev pub truth_of : Diagrams → Dia → List Bool → Bool
truth_of s d v = dia_truth s d.id v

-- the truth of a diagram is b at every valuation
abbrev pub Always : Diagrams → Dia → Bool → Type 0
Always s d b = (v : List Bool) → length v ≡ s.vars → truth_of s d v ≡ b

-- earlier diagrams stay, with their truths
pub record Stay (old new : Diagrams) : Type 0 where
  pub vars : new.vars ≡ old.vars
  pub stay : (d : Dia) → IsDia old d → IsDia new d
  pub truths : (d : Dia) → IsDia old d → (v : List Bool) → truth_of new d v ≡ truth_of old d v

-- flipping variable x changes the truth at some valuation
abbrev pub Depends : Diagrams → Dia → ℕ → Type 0
Depends s d x = (v : List Bool) × (length v ≡ s.vars) × (truth_of s d (set v x false) ≢ truth_of s d (set v x true))

-- x is the first variable on which the truth depends, and low and high are its parts
pub record IsChoice (s : Diagrams) (d : Dia) (x : ℕ) (low high : Dia) : Type 0 where
  pub variable : x < s.vars
  pub depends : Depends s d x
  pub first : (y : ℕ) → y < x → Depends s d y → ⊥
  pub low_in : IsDia s low
  pub high_in : IsDia s high
  pub low_is : (v : List Bool) → length v ≡ s.vars → truth_of s low v ≡ truth_of s d (set v x false)
  pub high_is : (v : List Bool) → length v ≡ s.vars → truth_of s high v ≡ truth_of s d (set v x true)

abbrev pub IsNode : Diagrams → Dia → Node → Type 0
IsNode s d False = Always s d false
IsNode s d True = Always s d true
IsNode s d (Choice x low high) = IsChoice s d x low high

-- two valuations have the same bits before place y
abbrev pub Agree : ℕ → List Bool → List Bool → Type 0
Agree y v w = (i : ℕ) → i < y → get_or v i false ≡ get_or w i false

-- v is the least falsifying valuation in the order of the variables, 0 before 1
pub record IsLeastFalsifying (s : Diagrams) (d : Dia) (v : List Bool) : Type 0 where
  pub size : length v ≡ s.vars
  pub fails : truth_of s d v ≡ false
  pub least : (w : List Bool) → length w ≡ s.vars → truth_of s d w ≡ false
      → (y : ℕ) → y < s.vars → Agree y v w → get_or w y false ≡ false → get_or v y false ≡ false

-- a diagram has the truth of a gate of a net at every valuation
pub record IsBuilt (s : Diagrams) (n : Gates) (gate : ℕ) (d : Dia) : Type 0 where
  pub within : IsDia s d
  pub is : (v : List Bool) → length v ≡ s.vars → truth_of s d v ≡ gate_truth n gate v
