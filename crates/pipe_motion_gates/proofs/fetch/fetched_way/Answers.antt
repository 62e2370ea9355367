use Rattle.std.proofs.Common.{◌==◌, if◌then◌else◌, get_or, false}
use Rattle.std.proofs.lemmas.Result.{IfOk-weaker}
use Rattle.nets.proofs.Truths.{begins_more}
use Rattle.dp_signals.specs.PipeNames as names
use Rattle.ctl_picks.proofs.Inside.{inside_more}
use Rattle.pipe_fields.specs.Layout.{fields_of}
use Rattle.ctl_rules.proofs.Kept.{asked_more, asked_as, asked_gate}
use Rattle.pipe_obligations.specs.Obligations.{code_of}
use Rattle.pipe_gates.proofs.Choices.{asked_three}
use Rattle.pipe_motion_gates.proofs.Codes.{choose_other}
use Rattle.pipe_motion_gates.proofs.fetch.fetched_way.Goals as goal

pub returns-clause-has_truth : goal.returns-clause-has_truth
unfolding fields_of
returns-clause-has_truth c =
    let i1 = inside_more c.code_listed.ensures.extends c.requires.has.inside in
    let k2 = c.code_listed-2.ensures.extends in
    let i2 = inside_more k2 i1 in
    let k3 = c.spells.ensures.extends in
    IfOk-weaker c.choose.result _ _ (λ _ made. asked_as (asked_three (λ x y z. if x then y else z) c.choose.ensures.extends (inside_more k3 i2) (asked_gate c.in_ok-ahead.ensures.has_truth)
    (asked_more (begins_more k2 k3) i1 c.in_ok-forward.ensures.has_truth) (asked_more k3 i2 c.in_ok-backward.ensures.has_truth) made)
    (λ w α cv. choose_other ((fields_of w).f.back == 0) (get_or c.args.inputs.now.settings.now.pt (code_of (cv names.f_ifun)) false) (get_or c.args.inputs.now.settings.now.pb (code_of (cv names.f_ifun)) false)))
    c.choose.ensures.has_truth
