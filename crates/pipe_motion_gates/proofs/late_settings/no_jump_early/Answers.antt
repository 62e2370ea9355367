use Rattle.std.proofs.Common.{◌∙◌}
use Rattle.std.proofs.lemmas.Result.{IfOk-weaker}
use Rattle.ctl_picks.proofs.Inside.{inside_more}
use Rattle.pipe_motion.proofs.Kept.{flow_kept}
use Rattle.ctl_rules.proofs.Kept.{tells_less}
use Rattle.pipe_motion_gates.proofs.Shows.{jump_by}
use Rattle.pipe_motion_gates.proofs.late_settings.no_jump_early.Goals as goal

pub returns-clause-has_truth : goal.returns-clause-has_truth
returns-clause-has_truth c =
    let k1 = c.right_after_e.ensures.extends in
    let i1 = inside_more k1 c.requires.ready.has.inside in
    IfOk-weaker c.no_early_jump.result _ _ (λ _ made. record {
      within = made.within;
      is = λ w α cv t. made.is w ∙ jump_by _ _ _ _ _ _ (flow_kept k1 c.args.inputs.now.flow.now w c.requires.ready.has.flow)
          (c.in_ok-right.ensures.has_truth.is w α cv (tells_less c.no_early_jump.ensures.extends i1 t)) (k1.same c.args.plain w c.requires.plain_in);
    })
    c.no_early_jump.ensures.has_truth
