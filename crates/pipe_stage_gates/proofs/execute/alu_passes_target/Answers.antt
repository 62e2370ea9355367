use Rattle.std.proofs.Common.{◌∙◌}
use Rattle.std.proofs.lemmas.Result.{IfOk-weaker}
use Rattle.nets.proofs.Truths.{begins_more}
use Rattle.pipe_stage_gates.proofs.Joined.{both_by, either_by}
use Rattle.pipe_fields.specs.Layout.{fields_of}
use Rattle.pipe_stage_gates.proofs.execute.alu_passes_target.Goals as goal

pub returns-clause-has_truth : goal.returns-clause-has_truth
unfolding fields_of
returns-clause-has_truth c = IfOk-weaker c.and.result _ _ (λ _ made. record {
  within = made.within;
  is = λ w.
      let up = begins_more c.row_has.ensures.extends (begins_more c.row_has-2.ensures.extends c.or.ensures.extends) in
      let own = c.row_has-2.ensures.extends.same c.in_ok-own.own w c.in_ok-own.ensures.has_truth.within ∙ c.in_ok-own.ensures.has_truth.is w in
      made.is w ∙ both_by (up.same c.args.good w c.requires.good) (c.in_ok-any.ensures.has_truth.is w ∙ either_by own (c.in_ok-next.ensures.has_truth.is w));
}) c.and.ensures.has_truth
