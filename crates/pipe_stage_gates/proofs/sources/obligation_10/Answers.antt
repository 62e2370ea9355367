use Rattle.std.proofs.Common.{◌&&◌, ◌||◌}
use Rattle.std.proofs.lemmas.Result.{IfOk-weaker}
use Rattle.nets.proofs.Truths.{begins_more}
use Rattle.ctl_picks.proofs.Inside.{inside_more}
use Rattle.dp_signals.specs.PipeNames as signal
use Rattle.pipe_fields.specs.Layout.{fields_of}
use Rattle.pipe_motion.proofs.Kept.{flow_kept}
use Rattle.pipe_obligations.specs.Obligations as spec
use Rattle.ctl_rules.proofs.Kept.{asked_two, asked_more, asked_as}
use Rattle.pipe_stage_gates.proofs.Joined.{right_by}
use Rattle.pipe_stage_gates.proofs.sources.obligation_10.Goals as goal

pub returns-clause-has_truth : goal.returns-clause-has_truth
returns-clause-has_truth c =
    let i0 = c.requires.ready.has.inside in
    let k1 = c.none_leaves.ensures.extends in
    let i1 = inside_more k1 i0 in
    let k2 = c.takes_next_pc.ensures.extends in
    let i2 = inside_more k2 i1 in
    let k3 = c.stores_late.ensures.extends in
    let i3 = inside_more k3 i2 in
    let k4 = c.picks_right_value.ensures.extends in
    let i4 = inside_more k4 i3 in
    let k5 = c.and.ensures.extends in
    let i5 = inside_more k5 i4 in
    let up = begins_more k1 (begins_more k2 k3) in
    let right = asked_as c.in_ok-right.ensures.has_truth (λ w α cv. right_by c.args.inputs.now.variant c.args.inputs.now.settings.now (fields_of w) (spec.register_controls_of α cv) α cv signal.d_valA signal.d_srcA signal.d_rvalA _ _ _ _
    (flow_kept up c.args.inputs.now.flow.now w c.requires.ready.has.flow) (c.in_ok-late.ensures.has_truth.is w)) in
    let both = asked_two (λ w x y. x && y) k5 i4 (asked_more (begins_more k3 k4) i2 c.in_ok-next_pc.ensures.has_truth) right c.in_ok-both.ensures.has_truth in
    IfOk-weaker c.or.result _ _ (λ _ made. asked_two (λ w x y. x || y) c.or.ensures.extends i5 (asked_more (begins_more k2 (begins_more k3 (begins_more k4 k5))) i1 c.in_ok-stays.ensures.has_truth) both made)
    c.or.ensures.has_truth
