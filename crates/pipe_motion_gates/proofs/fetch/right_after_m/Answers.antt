use Rattle.std.proofs.Common.{◌&&◌, ◌||◌, ap}
use Rattle.std.proofs.lemmas.Result.{IfOk-weaker}
use Rattle.ctl_atoms.specs.declared.leaf.Leaf.TheVariants.{Name}
use Rattle.dp_signals.specs.PipeNames as names
use Rattle.ctl_picks.proofs.Inside.{inside_more}
use Rattle.ctl_rules.specs.ColumnDemands as words
use Rattle.ctl_rules.proofs.Kept.{asked_two, asked_more, asked_as}
use Rattle.pipe_motion_gates.proofs.fetch.right_after_m.Goals as goal

pub returns-clause-has_truth : goal.returns-clause-has_truth
returns-clause-has_truth c =
    let k1 = c.jump_after_m.ensures.extends in
    let i1 = inside_more k1 c.requires.has.inside in
    let k2 = c.goes_to.ensures.extends in
    let returned = asked_as c.in_ok-returned.ensures.has_truth (λ w α cv. ap (λ z. z && words.picks_leaf cv names.f_pc (Name names.m_valM)) (k1.same c.args.inputs.now.flow.now.m.ret w c.requires.has.flow.m.ret)) in
    IfOk-weaker c.or.result _ _ (λ _ made. asked_two (λ w x y. x || y) c.or.ensures.extends (inside_more k2 i1) (asked_more k2 i1 c.in_ok-jumped.ensures.has_truth) returned made)
    c.or.ensures.has_truth
