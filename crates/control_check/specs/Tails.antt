-- Whether each rule is true at every valuation: the truths of a list of rules, one after another.
use Rattle.std.specs.Prelude.{◌≡◌, ℕ, ◌+◌, ◌<◌, ◌≤◌, Bool, true, false, List, length, get_or, slice_get, Some}
use Rattle.nets.specs.Nets.{Gates}
use Rattle.ctl_rules.specs.declared.rules.Rule.{Rule}
use Rattle.bdd_decide.specs.Decisions.{IsDecided}

-- the rules are numbered from 1 on
abbrev pub AreNumbered : List Rule → Type 0
AreNumbered list = (k : ℕ) (x : Rule) → slice_get list k ≡ Some x → x.number ≡ k + 1

-- the truths are those of the first rules
pub record AreTold (net : Gates) (list : List Rule) (truths : List Bool) : Type 0 where
  pub within : length truths ≤ length list
  pub each : (k : ℕ) (x : Rule) → k < length truths → slice_get list k ≡ Some x → IsDecided net x.gate (get_or truths k false)

-- the old ones stay, followed by true up to a length
pub record IsFilled (old : List Bool) (until : ℕ) (new : List Bool) : Type 0 where
  pub size : length new ≡ until
  pub stay : (k : ℕ) → k < length old → get_or new k false ≡ get_or old k false
  pub more : (k : ℕ) → length old ≤ k → k < until → get_or new k false ≡ true
