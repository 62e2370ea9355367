-- The decision on a list of rules over one net: all are true at every valuation, or there is a first one that is false
-- at some, and a least such valuation.
use Rattle.std.specs.Prelude.{◌≡◌, ℕ, ◌<◌, Bool, false, List, length, get_or, slice_get, Option, Some, None}
use Rattle.nets.specs.Nets.{Gates, truth}
use Rattle.bdd_decide.specs.Decisions.{IsAlwaysTrue, IsLeastOf}
use Rattle.ctl_rules.specs.declared.rules.Rule.{Rule}
use Rattle.ctl_verdicts.specs.declared.decision.FailedRule.{FailedRule}

-- the rule at place k of the list, from 0 on, is false at the valuation w, and at no lesser one; the rules before it
-- are true
pub record IsFirstFalseRule (n : Gates) (list : List Rule) (k : ℕ) (rule : Rule) (w : List Bool) : Type 0 where
  pub there : slice_get list k ≡ Some rule
  pub earlier : (j : ℕ) (r : Rule) → j < k → slice_get list j ≡ Some r → IsAlwaysTrue n r.gate
  pub least : IsLeastOf n.vars (λ u. truth n rule.gate u ≡ false) w

abbrev pub IsRuleDecision : Gates → List Rule → Option FailedRule → Type 0
IsRuleDecision n list None = (k : ℕ) (r : Rule) → slice_get list k ≡ Some r → IsAlwaysTrue n r.gate
IsRuleDecision n list (Some failure) =
    (k : ℕ) × (rule : Rule) × IsFirstFalseRule n list k rule failure.valuation.bits × (failure.rule ≡ rule.number)

-- the gates of the rules are gates of the net
abbrev pub HaveGatesOfNet : Gates → List Rule → Type 0
HaveGatesOfNet n list = (k : ℕ) (r : Rule) → slice_get list k ≡ Some r → r.gate < length n.gates

-- the gates of the rules, each at the place of its rule
pub record AreTheirGates (list : List Rule) (gates : List ℕ) : Type 0 where
  pub size : length gates ≡ length list
  pub each : (k : ℕ) (r : Rule) → slice_get list k ≡ Some r → get_or gates k 0 ≡ r.gate
