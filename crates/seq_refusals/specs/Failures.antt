-- A rule that is false at some valuation.
use Rattle.std.specs.Prelude.{◌≡◌, ℕ, false, List, slice_get, Some}
use Rattle.nets.specs.Nets.{Gates, truth}
use Rattle.bdd_decide.specs.Decisions.{IsLeastOf}
use Rattle.ctl_rules.specs.declared.rules.Rule.{Rule}
use Rattle.ctl_verdicts.specs.declared.decision.FailedRule.{FailedRule}

-- a rule of the list is false at this valuation, and at no lesser one
pub record IsFailure (net : Gates) (list : List Rule) (failure : FailedRule) : Type 0 where
  pub place : ℕ
  pub rule : Rule
  pub there : slice_get list place ≡ Some rule
  pub number : failure.rule ≡ rule.number
  pub least : IsLeastOf net.vars (λ u. truth net rule.gate u ≡ false) failure.valuation.bits
