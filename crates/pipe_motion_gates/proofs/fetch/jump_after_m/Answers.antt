use Rattle.std.proofs.Common.{◌&&◌, ◌==◌, if◌then◌else◌, ap}
use Rattle.std.proofs.lemmas.Result.{IfOk-weaker}
use Rattle.nets.proofs.Truths.{begins_more}
use Rattle.ctl_atoms.specs.declared.leaf.Leaf.TheVariants.{Name}
use Rattle.dp_signals.specs.PipeNames as names
use Rattle.ctl_picks.proofs.Inside.{inside_more}
use Rattle.pipe_fields.specs.Layout.{fields_of}
use Rattle.ctl_rules.specs.ColumnDemands as words
use Rattle.ctl_rules.proofs.Kept.{asked_two, asked_more, asked_as, asked_gate}
use Rattle.pipe_gates.proofs.Choices.{asked_three}
use Rattle.pipe_motion_gates.proofs.Codes.{choose_other}
use Rattle.pipe_motion_gates.proofs.fetch.jump_after_m.Goals as goal

pub returns-clause-has_truth : goal.returns-clause-has_truth
unfolding fields_of
returns-clause-has_truth c =
    let k1 = c.constant.ensures.extends in
    let i1 = inside_more k1 c.requires.has.inside in
    let k2 = c.goes_to.ensures.extends in
    let i2 = inside_more k2 i1 in
    let k3 = c.picks_leaf.ensures.extends in
    let i3 = inside_more k3 i2 in
    let k4 = c.spells.ensures.extends in
    let i4 = inside_more k4 i3 in
    let k5 = c.choose.ensures.extends in
    let i5 = inside_more k5 i4 in
    let k6 = c.jump.ensures.extends in
    let target = asked_as c.in_ok-target.ensures.has_truth (λ w α cv. ap (λ z. z && words.picks_leaf cv names.f_pc (Name names.M_valE)) (c.in_ok-carried.ensures.has_truth.is w)) in
    let way = asked_as (asked_three (λ x y z. if x then y else z) k5 i4 (asked_gate c.in_ok-falls.ensures.has_truth) (asked_more k4 i3 c.in_ok-next.ensures.has_truth)
    (asked_more (begins_more k3 k4) i2 target) c.in_ok-way.ensures.has_truth)
    (λ w α cv. choose_other ((fields_of w).m.cnd == 0) (words.picks_leaf cv names.f_pc (Name names.M_valA)) (c.args.inputs.now.settings.now.tv && words.picks_leaf cv names.f_pc (Name names.M_valE))) in
    IfOk-weaker c.and.result _ _ (λ _ made. asked_two (λ w x y. x && y) c.and.ensures.extends (inside_more k6 i5) (asked_gate c.in_ok-here.ensures.has_truth) (asked_more k6 i5 way) made)
    c.and.ensures.has_truth
