use Rattle.std.proofs.Common.{◌||◌}
use Rattle.std.proofs.lemmas.Result.{IfOk-weaker}
use Rattle.ctl_picks.proofs.Inside.{inside_more}
use Rattle.ctl_rules.proofs.Kept.{asked_two, asked_more}
use Rattle.pipe_stage_gates.proofs.sources.picks_right_value.Goals as goal

pub returns-clause-has_truth : goal.returns-clause-has_truth
returns-clause-has_truth c =
    let i1 = inside_more c.takes_ready.ensures.extends c.requires.has.inside in
    let k2 = c.picks_leaf.ensures.extends in
    IfOk-weaker c.or.result _ _ (λ _ made. asked_two (λ w x y. x || y) c.or.ensures.extends (inside_more k2 i1) c.in_ok-none.ensures.has_truth (asked_more k2 i1 c.in_ok-ready.ensures.has_truth) made)
    c.or.ensures.has_truth
