use Rattle.std.proofs.Common.{◌||◌, refl}
use Rattle.std.proofs.lemmas.Result.{IfOk-weaker}
use Rattle.ctl_rules.proofs.Kept.{asked_as}
use Rattle.pipe_stage_gates.proofs.Joined.{gate_then_asked}
use Rattle.nets.proofs.Truths.{begins_self, gate_there}
use Rattle.pipe_stage_gates.proofs.execute.obligation_17.Goals as goal

pub returns-clause-has_truth : goal.returns-clause-has_truth
returns-clause-has_truth c =
    IfOk-weaker c.or.result _ _ (λ _ made. asked_as
    (gate_then_asked (λ a b. a || b) c.requires.has.inside (begins_self _) (gate_there c.requires.has.flow.e.wrong) c.late_destination_is.ensures.extends c.in_ok-told.ensures.has_truth c.or.ensures.extends made)
    (λ w α cv. refl))
    c.or.ensures.has_truth
