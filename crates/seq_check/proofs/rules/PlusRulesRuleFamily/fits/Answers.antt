use Rattle.std.proofs.Common.{◌&&◌, refl}
use Rattle.std.proofs.lemmas.Result.{IfOk-weaker}
use Rattle.ctl_picks.proofs.Inside.{inside_more}
use Rattle.ctl_rules.proofs.Kept.{asked_as, asked_gate, asked_more, asked_two}
use Rattle.seq_obligations.specs.Fields.{line_at}
use Rattle.seq_check.specs.Fields.{allowed, fields_of}
use Rattle.seq_check.proofs.rules.PlusRulesRuleFamily.fits.Goals as goal

pub line_allowed-requires-clause-inside : goal.line_allowed-requires-clause-inside
line_allowed-requires-clause-inside c = inside_more c.code_allowed.ensures.extends c.requires.inside

pub returns-clause-has_truth : goal.returns-clause-has_truth
unfolding allowed fields_of line_at
returns-clause-has_truth c =
    let i = inside_more c.code_allowed.ensures.extends c.requires.inside in
    let code = asked_more c.line_allowed.ensures.extends i (asked_gate c.in_ok-code.ensures.has_truth) in
    IfOk-weaker c.and.result _ _ (λ g gate.
    asked_as
    (asked_two (λ w x y. x && y) c.and.ensures.extends (inside_more c.line_allowed.ensures.extends i) code c.in_ok-rest.ensures.has_truth gate)
    (λ w α cv. refl))
    c.and.ensures.has_truth
