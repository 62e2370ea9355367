-- The first index at which a rule is false, and the first rule that is false there.
use Rattle.std.specs.Prelude.{ℕ, ◌≡◌, ◌-◌, ◌<◌, Bool, true, false, List, [], length, get_or, slice_get, Option, Some, None}
use Rattle.pipe_fields.specs.Layout.{bit_count}
use Rattle.nets.specs.Nets.{Gates, truth}
use Rattle.ctl_rules.specs.declared.rules.Rule.{Rule}
use Rattle.ctl_rules.specs.declared.rules.Rules.{Rules}
use Rattle.prog_gen.specs.Choices.{valuation}
use Rattle.lane_eval.specs.Lanes.{lane_bit}
use Rattle.lane_eval.specs.declared.search.Found.{Found}

-- the gates of rules are gates of the net
abbrev pub RulesHaveGates : Gates → List Rule → Type 0
RulesHaveGates n list = (k : ℕ) (x : Rule) → slice_get list k ≡ Some x → x.gate < length n.gates

-- whether a rule is true at valuation i of a seed, drawn for the rules' instruction set and their net's atoms
abbrev pub holds_drawn : Rules → ℕ → ℕ → Rule → Bool
holds_drawn r seed i x = truth r.net x.gate (valuation r.variant (r.net.vars - bit_count) seed i)

-- whether a rule is true in a place of the vectors of all gates
abbrev pub holds_in : List (List ℕ) → ℕ → Rule → Bool
holds_in vectors p x = lane_bit p (get_or vectors x.gate [])

-- ---- over the truth of each rule at each index, and a list of rules
module _ (holds : ℕ → Rule → Bool) (list : List Rule) where
  -- the rules before place k are true at an index
  abbrev pub HoldBefore : ℕ → ℕ → Type 0
  HoldBefore i k = (j : ℕ) (x : Rule) → j < k → slice_get list j ≡ Some x → holds i x ≡ true

  abbrev pub AllHold : ℕ → Type 0
  AllHold i = (j : ℕ) (x : Rule) → slice_get list j ≡ Some x → holds i x ≡ true

  -- at an index the rule at some place is false and those before it are true; it has this number
  pub record IsFirstAt (i number : ℕ) : Type 0 where
    pub place : ℕ
    pub rule : Rule
    pub there : slice_get list place ≡ Some rule
    pub fails : holds i rule ≡ false
    pub before : HoldBefore i place
    pub numbered : number ≡ rule.number

  -- what is found below a count: the least index at which a rule is false, with the first such rule; or that there is none
  abbrev pub IsFirstFalse : ℕ → Option Found → Type 0
  IsFirstFalse count None = (i : ℕ) → i < count → AllHold i
  IsFirstFalse count (Some found) = (found.index < count) × ((i : ℕ) → i < found.index → AllHold i) × IsFirstAt found.index found.rule
