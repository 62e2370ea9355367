use Rattle.std.proofs.Common.{◌||◌, not, refl}
use Rattle.std.proofs.lemmas.Result.{IfOk-weaker}
use Rattle.ctl_rules.proofs.Kept.{asked_as}
use Rattle.pipe_stage_gates.proofs.Joined.{gate_then_asked}
use Rattle.nets.proofs.Truths.{begins_self, gate_there}
use Rattle.pipe_fields.specs.Layout.{fields_of}
use Rattle.pipe_stage_gates.proofs.memory.obligation_18.Goals as goal

pub returns-clause-has_truth : goal.returns-clause-has_truth
unfolding fields_of
returns-clause-has_truth c =
    IfOk-weaker c.implies.result _ _ (λ _ made. asked_as
    (gate_then_asked (λ a b. not a || b) c.requires.has.inside (begins_self _) (gate_there c.requires.has.flow.m.good) c.by_icode.ensures.extends c.in_ok-told.ensures.has_truth c.implies.ensures.extends made)
    (λ w α cv. refl))
    c.implies.ensures.has_truth
