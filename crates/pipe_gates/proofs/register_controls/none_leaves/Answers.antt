use Rattle.std.proofs.Common.{not, ap, ◌∙◌}
use Rattle.std.proofs.lemmas.Result.{IfOk-weaker}
use Rattle.nets.proofs.Truths.{begins_more}
use Rattle.pipe_motion.specs.Gates.{flow_at}
use Rattle.pipe_motion.specs.Flow.{leaves}
use Rattle.ctl_rules.proofs.Kept.{tells_less}
use Rattle.pipe_gates.proofs.register_controls.none_leaves.Goals as goal

pub returns-clause-has_truth : goal.returns-clause-has_truth
returns-clause-has_truth c = IfOk-weaker c.not.result _ _ (λ _ made. record {
  within = made.within;
  is = λ w α cv t.
      made.is w ∙ ap not (c.in_ok-goes.ensures.has_truth.is w
      ∙ ap (λ k. leaves k (flow_at c.args.b.now w c.args.y.now)) (c.register_controls_of-controls.ensures.encodes c.args.b.now w α cv (tells_less (begins_more c.leaves_gate.ensures.extends c.not.ensures.extends) c.requires.inside t)));
})
    c.not.ensures.has_truth
