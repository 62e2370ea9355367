use Rattle.std.proofs.Common.{◌&&◌, if◌then◌else◌}
use Rattle.std.proofs.lemmas.Result.{IfOk-weaker}
use Rattle.nets.proofs.Truths.{begins_more, gate_there}
use Rattle.ctl_picks.proofs.Inside.{inside_more}
use Rattle.pipe_fields.specs.Layout.{fields_of}
use Rattle.ctl_rules.proofs.Kept.{asked_two, asked_more, asked_gate}
use Rattle.pipe_gates.proofs.Choices.{asked_three}
use Rattle.pipe_stage_gates.proofs.sources.takes_ready.Goals as goal

pub returns-clause-has_truth : goal.returns-clause-has_truth
unfolding fields_of
returns-clause-has_truth c =
    let i0 = c.requires.has.inside in
    let k1 = c.takes_value.ensures.extends in
    let i1 = inside_more k1 i0 in
    let k2 = c.picks_leaf.ensures.extends in
    let i2 = inside_more k2 i1 in
    let k3 = c.and.ensures.extends in
    let i3 = inside_more k3 i2 in
    let up = begins_more k1 k2 in
    let good = asked_more up i0 (asked_gate (gate_there c.requires.has.flow.e.good)) in
    let loaded = asked_two (λ w x y. x && y) k3 i2 good c.in_ok-loads.ensures.has_truth c.in_ok-loaded.ensures.has_truth in
    let free = asked_more (begins_more up k3) i0 (asked_gate (gate_there c.requires.free_in)) in
    let right = asked_more (begins_more k2 k3) i1 c.in_ok-right.ensures.has_truth in
    IfOk-weaker c.choose.result _ _ (λ _ made. asked_three (λ x y z. if x then y else z) c.choose.ensures.extends i3 loaded free right made)
    c.choose.ensures.has_truth
