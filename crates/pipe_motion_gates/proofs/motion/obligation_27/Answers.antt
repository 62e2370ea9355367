use Rattle.std.proofs.Common.{ap, ◌∙◌}
use Rattle.std.proofs.lemmas.Result.{IfOk-weaker}
use Rattle.pipe_motion.specs.Gates.{flow_at}
use Rattle.pipe_motion.specs.Flow as motion
use Rattle.ctl_rules.proofs.Kept.{tells_less}
use Rattle.pipe_motion_gates.proofs.motion.obligation_27.Goals as goal

pub returns-clause-has_truth : goal.returns-clause-has_truth
returns-clause-has_truth c = IfOk-weaker c.obligation_27.result _ _ (λ _ made. record {
  within = made.within;
  is = λ w α cv t. made.is w ∙ ap (λ k. motion.o27 k (flow_at c.args.b.now w c.args.inputs.now.flow.now)) (c.register_controls_of-controls.ensures.encodes c.args.b.now w α cv (tells_less c.obligation_27.ensures.extends c.requires.ready.has.inside t));
}) c.obligation_27.ensures.has_truth
