use Rattle.std.proofs.Common.{◌&&◌, ◌==◌, ◌∙◌, not, ap, arith}
use Rattle.std.proofs.lemmas.Result.{IfOk-weaker}
use Rattle.dp_signals.specs.PipeNames as names
use Rattle.ctl_picks.proofs.Inside.{inside_more}
use Rattle.pipe_fields.specs.Layout.{fields_of}
use Rattle.ctl_rules.proofs.Kept.{asked_one, asked_two, asked_more, asked_as, asked_gate}
use Rattle.pipe_obligations.specs.Obligations.{code_of}
use Rattle.pipe_motion_gates.proofs.Codes.{code_is, not_both}
use Rattle.pipe_motion_gates.proofs.fetch.fetched_stops.Goals as goal

pub returns-clause-has_truth : goal.returns-clause-has_truth
unfolding fields_of
returns-clause-has_truth c =
    let i1 = inside_more c.picks_leaf.ensures.extends c.requires.has.inside in
    let k2 = c.spells.ensures.extends in
    let i2 = inside_more k2 i1 in
    let both = asked_two (λ w x y. x && y) c.and.ensures.extends i2 (asked_more k2 i1 c.in_ok-running.ensures.has_truth) (asked_gate c.in_ok-clear.ensures.has_truth) c.in_ok-goes_on.ensures.has_truth in
    IfOk-weaker c.not.result _ _ (λ _ made. asked_as (asked_one (λ w x. not x) c.not.ensures.extends (inside_more c.and.ensures.extends i2) both made)
    (λ w α cv. ap (λ z. not (z && (fields_of w).f.stops == 0)) (code_is (cv names.f_stat) 1 (omega arith)) ∙ not_both (code_of (cv names.f_stat) == 1) ((fields_of w).f.stops == 0)))
    c.not.ensures.has_truth
