use Rattle.std.proofs.Common.{◌≡◌, ◌&&◌, ◌||◌, not, ap, List, Bool}
use Rattle.std.proofs.lemmas.Result.{IfOk-weaker}
use Rattle.nets.proofs.Truths.{begins_more}
use Rattle.ctl_picks.proofs.Inside.{inside_more}
use Rattle.net_fields.proofs.Fields.{gate_as}
use Rattle.pipe_fields.specs.Layout.{fields_of}
use Rattle.pipe_motion.specs.Gates.{flow_at}
use Rattle.pipe_motion.specs.Flow.{Flow, youngest_stops}
use Rattle.pipe_motion.proofs.Kept.{flow_kept}
use Rattle.ctl_rules.proofs.Kept.{asked_one, asked_two, asked_more, asked_as, asked_gate}
use Rattle.pipe_obligations.specs.Obligations as spec
use Rattle.pipe_motion_gates.proofs.fetch.fetch_good.Goals as goal

pub returns-clause-has_truth : goal.returns-clause-has_truth
returns-clause-has_truth c =
    let i0 = c.requires.has.inside in
    let k1 = c.on_path.ensures.extends in
    let i1 = inside_more k1 i0 in
    let k2 = c.right_pc.ensures.extends in
    let i2 = inside_more k2 i1 in
    let k3 = c.or.ensures.extends in
    let i3 = inside_more k3 i2 in
    let k4 = c.stops_gate.ensures.extends in
    let i4 = inside_more k4 i3 in
    let k5 = c.not.ensures.extends in
    let i5 = inside_more k5 i4 in
    let y = c.args.inputs.now.flow.now in
    let kept1 : (w : List Bool) → flow_at c.on_path.new.b w y ≡ flow_at c.args.b.now w y = λ w. flow_kept k1 y w c.requires.has.flow in
    let kept3 : (w : List Bool) → flow_at c.or.new.self w y ≡ flow_at c.args.b.now w y = λ w. flow_kept (begins_more k1 (begins_more k2 k3)) y w c.requires.has.flow in
    let right = asked_as c.in_ok-right.ensures.has_truth (λ w α cv. ap (λ (z : Flow). spec.right_pc c.args.inputs.now.variant c.args.inputs.now.settings.now (fields_of w) z (spec.register_controls_of α cv) α cv) (kept1 w)) in
    let next = asked_two (λ w x z. x || z) k3 i2 (asked_more k2 i1 c.in_ok-ahead.ensures.has_truth) right c.in_ok-next.ensures.has_truth in
    let stops = asked_gate (gate_as c.in_ok-stops.ensures.has_truth (λ w. ap youngest_stops (kept3 w))) in
    let goes_on = asked_one (λ w x. not x) k5 i4 stops c.in_ok-goes_on.ensures.has_truth in
    IfOk-weaker c.and.result _ _ (λ _ made. asked_two (λ w x z. x && z) c.and.ensures.extends i5 goes_on (asked_more (begins_more k4 k5) i3 next) made)
    c.and.ensures.has_truth
