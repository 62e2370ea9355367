use Rattle.std.proofs.Common.{◌∙◌}
use Rattle.std.proofs.lemmas.Result.{IfOk-weaker}
use Rattle.nets.proofs.Truths.{begins_more}
use Rattle.pipe_stage_gates.proofs.Joined.{both_by}
use Rattle.pipe_fields.specs.Layout.{fields_of}
use Rattle.pipe_stage_gates.proofs.execute.jumps.Goals as goal

pub returns-clause-has_truth : goal.returns-clause-has_truth
unfolding fields_of
returns-clause-has_truth c = IfOk-weaker c.and-2.result _ _ (λ _ made. record {
  within = made.within;
  is = λ w.
      let fine = c.row_has.ensures.extends.same c.in_ok-fine.fine w c.in_ok-fine.ensures.has_truth.within ∙ c.in_ok-fine.ensures.has_truth.is w in
      let good = (begins_more c.spells.ensures.extends (begins_more c.row_has.ensures.extends c.and.ensures.extends)).same c.args.good w c.requires.good in
      made.is w ∙ both_by good (c.in_ok-jump.ensures.has_truth.is w ∙ both_by fine (c.in_ok-branch.ensures.has_truth.is w));
}) c.and-2.ensures.has_truth
