use Rattle.std.proofs.Common.{◌∙◌}
use Rattle.std.proofs.lemmas.Result.{IfOk-weaker}
use Rattle.pipe_stage_gates.proofs.Joined.{both_by}
use Rattle.pipe_fields.specs.Layout.{fields_of}
use Rattle.pipe_stage_gates.proofs.execute.loses.Goals as goal

pub returns-clause-has_truth : goal.returns-clause-has_truth
unfolding fields_of
returns-clause-has_truth c = IfOk-weaker c.and.result _ _ (λ _ made. record {
  within = made.within;
  is = λ w.
      let conditional = c.spells.ensures.extends.same c.in_ok-conditional.conditional w c.in_ok-conditional.ensures.has_truth.within ∙ c.in_ok-conditional.ensures.has_truth.is w in
      made.is w ∙ both_by conditional (c.in_ok-fails.ensures.has_truth.is w);
}) c.and.ensures.has_truth
