use Rattle.std.proofs.Common.{◌&&◌, ap}
use Rattle.std.proofs.lemmas.Result.{IfOk-weaker}
use Rattle.ctl_rules.proofs.Kept.{asked_as}
use Rattle.pipe_stage_gates.proofs.Joined.{both_by, then_asked}
use Rattle.pipe_fields.specs.Layout.{fields_of}
use Rattle.nets.proofs.Truths.{begins_more}
use Rattle.dp_signals.specs.PipeNames.{mem_read, mem_write}
use Rattle.ctl_rules.specs.ColumnDemands.{is_truth}
use Rattle.pipe_stage_gates.proofs.memory.obligation_19.Goals as goal

pub returns-clause-has_truth : goal.returns-clause-has_truth
unfolding fields_of
returns-clause-has_truth c =
    let k1 = c.row_has.ensures.extends in
    let k2 = begins_more k1 c.truth_where.ensures.extends in
    let k3 = c.row_has-2.ensures.extends in
    IfOk-weaker c.and.result _ _ (λ _ made. asked_as
    (then_asked (λ a b. a && b) c.requires.has.inside k2 c.in_ok-reads.ensures.has_truth (begins_more k3 c.truth_where-2.ensures.extends) c.in_ok-writes.ensures.has_truth c.and.ensures.extends made)
    (λ w α cv. both_by (ap (λ x. is_truth α cv mem_read x) (both_by (k1.same c.args.inputs.now.flow.now.m.good w c.requires.has.flow.m.good) (c.in_ok-loads.ensures.has_truth.is w)))
    (ap (λ x. is_truth α cv mem_write x) (both_by ((begins_more k2 k3).same c.args.inputs.now.flow.now.m.good w c.requires.has.flow.m.good) (c.in_ok-stores.ensures.has_truth.is w)))))
    c.and.ensures.has_truth
