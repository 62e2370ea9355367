use Rattle.std.proofs.Common.{◌&&◌}
use Rattle.std.proofs.lemmas.Result.{IfOk-weaker}
use Rattle.ctl_picks.proofs.Inside.{inside_more}
use Rattle.ctl_rules.proofs.Kept.{asked_two, asked_more, asked_gate}
use Rattle.pipe_motion_gates.proofs.fetch.on_path.Goals as goal

pub returns-clause-has_truth : goal.returns-clause-has_truth
returns-clause-has_truth c =
    let k1 = c.path_gate.ensures.extends in
    let i1 = inside_more k1 c.requires.has.inside in
    let k2 = c.picks_leaf.ensures.extends in
    IfOk-weaker c.and.result _ _ (λ _ made. asked_two (λ w x y. x && y) c.and.ensures.extends (inside_more k2 i1) c.in_ok-ahead.ensures.has_truth
    (asked_more k2 i1 (asked_gate c.in_ok-path.ensures.has_truth)) made)
    c.and.ensures.has_truth
