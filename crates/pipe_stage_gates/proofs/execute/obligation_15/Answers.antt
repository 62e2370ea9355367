use Rattle.std.proofs.Common.{◌∙◌, ap}
use Rattle.std.proofs.lemmas.Result.{IfOk-weaker}
use Rattle.ctl_rules.proofs.Kept.{asked_as}
use Rattle.pipe_fields.specs.Layout.{fields_of}
use Rattle.dp_signals.specs.PipeNames.{set_cc}
use Rattle.ctl_rules.specs.ColumnDemands.{is_truth}
use Rattle.pipe_stage_gates.proofs.Joined.{both_by}
use Rattle.pipe_stage_gates.proofs.execute.obligation_15.Goals as goal

pub returns-clause-has_truth : goal.returns-clause-has_truth
unfolding fields_of
returns-clause-has_truth c =
    IfOk-weaker c.truth_where.result _ _ (λ _ made. asked_as made
    (λ w α cv. ap (λ x. is_truth α cv set_cc x)
    (both_by (c.row_has.ensures.extends.same c.in_ok-works.works w c.in_ok-works.ensures.has_truth.within ∙ c.in_ok-works.ensures.has_truth.is w) (c.in_ok-sets.ensures.has_truth.is w))))
    c.truth_where.ensures.has_truth
