-- The results of operations on diagrams.
use Rattle.std.specs.Prelude.{ℕ, ◌+◌, ◌<◌, ◌≤◌, min, Bool, true, false, not, ◌&&◌, List, ◌≡◌, length, slice_get, Some}
use Rattle.bdd_core.specs.Diagrams.{Diagrams, IsReduced, at, count, dia_truth, cofactor_of}
use Rattle.bdd_core.specs.declared.results.Op.{Op}
use Rattle.bdd_core.specs.declared.results.Op.TheVariants.{And, Not}
use Rattle.bdd_core.specs.declared.results.OpKey.{OpKey}
use Rattle.bdd_core.specs.declared.results.CachedResult.{CachedResult}
use Rattle.bdd_core.specs.declared.apply.OperandSplit.{OperandSplit}

-- the truth of an operation; a negation has its argument twice
abbrev pub op_truth : Op → Bool → Bool → Bool
op_truth And x y = x && y
op_truth Not x y = not x

-- both arguments of an operation are diagrams
pub record IsKey (s : Diagrams) (k : OpKey) : Type 0 where
  pub left : k.left < count s
  pub right : k.right < count s

-- the diagram r is the result of the operation, and no variable before those of its arguments decides it
pub record IsAnswer (s : Diagrams) (k : OpKey) (r : ℕ) : Type 0 where
  pub left : k.left < count s
  pub right : k.right < count s
  pub within : r < count s
  pub top : min (at s k.left).var (at s k.right).var ≤ (at s r).var
  pub truth_is : (v : List Bool) → length v ≡ s.vars → dia_truth s r v ≡ op_truth k.op (dia_truth s k.left v) (dia_truth s k.right v)

-- each cached result is right
pub record AreAnswers (s : Diagrams) (entries : List CachedResult) : Type 0 where
  pub each : (i : ℕ) (e : CachedResult) → slice_get entries i ≡ Some e → IsAnswer s e.key e.answer

-- an operation splits in two: on the parts of its arguments under the first variable that decides either of them
pub record IsSplit (s : Diagrams) (k : OpKey) (p : OperandSplit) : Type 0 where
  pub var : p.var ≡ min (at s k.left).var (at s k.right).var
  pub under : p.var < s.vars
  pub low_left : p.low_left ≡ cofactor_of (at s) p.var false k.left
  pub low_right : p.low_right ≡ cofactor_of (at s) p.var false k.right
  pub high_left : p.high_left ≡ cofactor_of (at s) p.var true k.left
  pub high_right : p.high_right ≡ cofactor_of (at s) p.var true k.right
  pub low_left_in : p.low_left < count s
  pub low_right_in : p.low_right < count s
  pub high_left_in : p.high_left < count s
  pub high_right_in : p.high_right < count s
  pub low_falls : p.low_left + p.low_right < k.left + k.right
  pub high_falls : p.high_left + p.high_right < k.left + k.right

-- diagram d decides variable x between two others, or equals both
pub record IsMade (s : Diagrams) (x low high d : ℕ) : Type 0 where
  pub within : d < count s
  pub top : x ≤ (at s d).var
  pub is_low : cofactor_of (at s) x false d ≡ low
  pub is_high : cofactor_of (at s) x true d ≡ high

-- r is the result of operation k in every store that has its arguments
abbrev pub IsSettled : OpKey → ℕ → Type 0
IsSettled k r = (s : Diagrams) → IsReduced s → IsKey s k → IsAnswer s k r
