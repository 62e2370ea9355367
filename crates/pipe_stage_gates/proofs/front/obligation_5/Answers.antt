use Rattle.std.proofs.Common.{◌||◌, refl}
use Rattle.std.proofs.lemmas.Result.{IfOk-weaker}
use Rattle.ctl_picks.proofs.Inside.{inside_more}
use Rattle.ctl_rules.proofs.Kept.{asked_as, asked_gate, asked_more, asked_two}
use Rattle.pipe_fields.specs.Layout.{fields_of}
use Rattle.pipe_stage_gates.proofs.front.obligation_5.Goals as goal

pub returns-clause-has_truth : goal.returns-clause-has_truth
unfolding fields_of
returns-clause-has_truth c =
    let i = inside_more c.reading_fails.ensures.extends c.requires.inside in
    IfOk-weaker c.or.result _ _ (λ _ made. asked_as
    (asked_two (λ w x y. x || y) c.or.ensures.extends (inside_more c.fetch_rule_gate.ensures.extends i) (asked_more c.fetch_rule_gate.ensures.extends i (asked_gate c.in_ok-error.ensures.has_truth))
    c.in_ok-asked.ensures.has_truth made)
    (λ w α cv. refl))
    c.or.ensures.has_truth
