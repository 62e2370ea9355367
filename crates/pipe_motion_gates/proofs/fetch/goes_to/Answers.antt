use Rattle.std.proofs.Common.{◌&&◌}
use Rattle.std.proofs.lemmas.Result.{IfOk-weaker}
use Rattle.nets.proofs.Truths.{gate_there}
use Rattle.ctl_picks.proofs.Inside.{inside_more}
use Rattle.ctl_rules.proofs.Kept.{asked_two, asked_more, asked_gate}
use Rattle.pipe_motion_gates.proofs.fetch.goes_to.Goals as goal

pub returns-clause-has_truth : goal.returns-clause-has_truth
returns-clause-has_truth c =
    let k1 = c.picks_leaf.ensures.extends in
    IfOk-weaker c.and.result _ _ (λ _ made. asked_two (λ w x y. x && y) c.and.ensures.extends (inside_more k1 c.requires.inside)
    (asked_more k1 c.requires.inside (asked_gate (gate_there c.requires.here_in))) c.in_ok-taken.ensures.has_truth made)
    c.and.ensures.has_truth
