use Rattle.std.proofs.Common.{◌&&◌, refl}
use Rattle.std.proofs.lemmas.Result.{IfOk-weaker}
use Rattle.ctl_rules.proofs.Kept.{asked_as, asked_more, asked_two}
use Rattle.nets.proofs.Truths.{begins_more}
use Rattle.ctl_picks.proofs.Inside.{inside_more}
use Rattle.pipe_fields.specs.Layout.{fields_of}
use Rattle.pipe_stage_gates.proofs.memory.registers_written.Goals as goal

pub returns-clause-has_truth : goal.returns-clause-has_truth
unfolding fields_of
returns-clause-has_truth c =
    let i1 = inside_more c.picks_leaf.ensures.extends c.requires.inside in
    let i2 = inside_more c.picks_leaf-2.ensures.extends i1 in
    let i3 = inside_more c.values_written.ensures.extends i2 in
    let rest = asked_two (λ w x y. x && y) c.and.ensures.extends i3 (asked_more c.values_written.ensures.extends i2 c.in_ok-dst_m.ensures.has_truth) c.in_ok-values.ensures.has_truth c.in_ok-rest.ensures.has_truth in
    let up = begins_more c.picks_leaf-2.ensures.extends (begins_more c.values_written.ensures.extends c.and.ensures.extends) in
    IfOk-weaker c.and-2.result _ _ (λ _ made. asked_as
    (asked_two (λ w x y. x && y) c.and-2.ensures.extends (inside_more c.and.ensures.extends i3) (asked_more up i1 c.in_ok-dst_e.ensures.has_truth) rest made)
    (λ w α cv. refl))
    c.and-2.ensures.has_truth
