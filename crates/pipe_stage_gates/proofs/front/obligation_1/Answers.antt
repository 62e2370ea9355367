use Rattle.std.proofs.Common.{◌&&◌, refl}
use Rattle.std.proofs.lemmas.Result.{IfOk-weaker}
use Rattle.ctl_picks.proofs.Inside.{inside_more}
use Rattle.ctl_rules.proofs.Kept.{asked_as, asked_more, asked_two}
use Rattle.pipe_fields.specs.Layout.{fields_of}
use Rattle.pipe_stage_gates.proofs.front.obligation_1.Goals as goal

pub returns-clause-has_truth : goal.returns-clause-has_truth
unfolding fields_of
returns-clause-has_truth c =
    let i = inside_more c.picks_leaf.ensures.extends c.requires.inside in
    IfOk-weaker c.and.result _ _ (λ _ made. asked_as
    (asked_two (λ w x y. x && y) c.and.ensures.extends (inside_more c.picks_leaf-2.ensures.extends i) (asked_more c.picks_leaf-2.ensures.extends i c.in_ok-code.ensures.has_truth)
    c.in_ok-fun.ensures.has_truth made)
    (λ w α cv. refl))
    c.and.ensures.has_truth
