use Rattle.std.proofs.Common.{◌||◌, not}
use Rattle.std.proofs.lemmas.Result.{IfOk-weaker}
use Rattle.ctl_picks.proofs.Inside.{inside_more}
use Rattle.pipe_fields.specs.Layout.{fields_of}
use Rattle.ctl_rules.proofs.Kept.{asked_two, asked_more, asked_gate}
use Rattle.pipe_stage_gates.proofs.sources.takes_next_pc.Goals as goal

pub returns-clause-has_truth : goal.returns-clause-has_truth
unfolding fields_of
returns-clause-has_truth c =
    let i1 = inside_more c.row_has.ensures.extends c.requires.has.inside in
    let k2 = c.picks_leaf.ensures.extends in
    IfOk-weaker c.implies.result _ _ (λ _ made. asked_two (λ w x y. not x || y) c.implies.ensures.extends (inside_more k2 i1)
    (asked_more k2 i1 (asked_gate c.in_ok-carries.ensures.has_truth)) c.in_ok-taken.ensures.has_truth made)
    c.implies.ensures.has_truth
