use Rattle.std.proofs.Common.{ap}
use Rattle.std.proofs.lemmas.Result.{IfOk-weaker}
use Rattle.ctl_rules.proofs.Kept.{asked_as}
use Rattle.pipe_stage_gates.proofs.Joined.{number_if}
use Rattle.pipe_fields.specs.Layout.{fields_of}
use Rattle.nets.specs.Nets.{truth}
use Rattle.dp_signals.specs.PipeNames.{Stat}
use Rattle.ctl_rules.specs.ColumnDemands.{picks_leaf}
use Rattle.pipe_stage_gates.proofs.memory.obligation_22.Goals as goal

pub returns-clause-has_truth : goal.returns-clause-has_truth
unfolding fields_of
returns-clause-has_truth c =
    IfOk-weaker c.picks_leaf_if.result _ _ (λ _ made. asked_as made
    (λ w α cv. ap (λ l. picks_leaf cv Stat l) (number_if (truth c.args.b.now c.args.inputs.now.flow.now.w.good w) (fields_of w).w.stat 1)))
    c.picks_leaf_if.ensures.has_truth
