use Rattle.std.proofs.Common.{if◌then◌else◌, not, ap, ◌∙◌}
use Rattle.std.proofs.lemmas.Result.{IfOk-weaker}
use Rattle.ctl_rules.proofs.Kept.{asked_as}
use Rattle.pipe_stage_gates.proofs.Joined.{number_if}
use Rattle.pipe_fields.specs.Layout.{fields_of}
use Rattle.ctl_atoms.specs.declared.leaf.Leaf.TheVariants.{Number}
use Rattle.dp_signals.specs.PipeNames.{m_stat}
use Rattle.y86_base.specs.Words.{set}
use Rattle.ctl_rules.specs.ColumnDemands.{picks_leaf}
use Rattle.pipe_stage_gates.proofs.memory.obligation_20.Goals as goal

pub returns-clause-has_truth : goal.returns-clause-has_truth
unfolding fields_of
returns-clause-has_truth c =
    IfOk-weaker c.picks_leaf_if.result _ _ (λ _ made. asked_as made
    (λ w α cv.
    let n = (fields_of w).m in
    ap (λ l. picks_leaf cv m_stat l)
    (ap (λ x. if x then Number 3 else Number n.stat) (c.in_ok-fault.ensures.has_truth.is w ∙ ap not (c.in_ok-fine.ensures.has_truth.is w)) ∙ number_if (set n.error) 3 n.stat)))
    c.picks_leaf_if.ensures.has_truth
