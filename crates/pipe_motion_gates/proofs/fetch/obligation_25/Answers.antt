use Rattle.std.proofs.Common.{◌∙◌}
use Rattle.std.proofs.lemmas.Result.{IfOk-weaker}
use Rattle.nets.proofs.Truths.{begins_more}
use Rattle.ctl_picks.proofs.Inside.{inside_more}
use Rattle.pipe_motion.proofs.Kept.{flow_kept}
use Rattle.ctl_rules.proofs.Kept.{asked_more, tells_less}
use Rattle.pipe_motion_gates.proofs.Codes.{next_by}
use Rattle.pipe_motion_gates.proofs.fetch.obligation_25.Goals as goal

pub returns-clause-has_truth : goal.returns-clause-has_truth
returns-clause-has_truth c =
    let i0 = c.requires.ready.has.inside in
    let k1 = c.fetch_good.ensures.extends in
    let i1 = inside_more k1 i0 in
    let k2 = c.fetched_facts.ensures.extends in
    let i2 = inside_more k2 i1 in
    let k3 = c.obligation_25.ensures.extends in
    let good = asked_more k2 i1 c.in_ok-good.ensures.has_truth in
    IfOk-weaker c.obligation_25.result _ _ (λ _ made. record {
      within = made.within;
      is = λ w α cv t.
          let u = tells_less k3 i2 t in
          made.is w ∙ next_by c.args.inputs.now.settings.now.je c.args.inputs.now.settings.now.rm _ _ _ _ _ _ _ _ (c.register_controls_of-controls.ensures.encodes c.fetched_facts.new.b w α cv u) (good.is w α cv u) (c.in_ok-facts.ensures.has_truth.is w α cv u)
          (flow_kept (begins_more k1 k2) c.args.inputs.now.flow.now w c.requires.ready.has.flow);
    })
    c.obligation_25.ensures.has_truth
