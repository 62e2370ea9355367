use Rattle.std.proofs.Common.{◌∙◌}
use Rattle.std.proofs.lemmas.Result.{IfOk-weaker}
use Rattle.nets.proofs.Truths.{begins_more}
use Rattle.pipe_stage_gates.proofs.Joined.{both_by}
use Rattle.pipe_fields.specs.Layout.{fields_of}
use Rattle.pipe_stage_gates.proofs.execute.stores_loaded.Goals as goal

pub returns-clause-has_truth : goal.returns-clause-has_truth
unfolding fields_of
returns-clause-has_truth c = IfOk-weaker c.and-2.result _ _ (λ _ made. record {
  within = made.within;
  is = λ w.
      let stores = (begins_more c.same.ensures.extends c.and.ensures.extends).same c.in_ok-stores.stores w c.in_ok-stores.ensures.has_truth.within ∙ c.in_ok-stores.ensures.has_truth.is w in
      let loads = (begins_more c.row_has.ensures.extends c.same.ensures.extends).same c.args.loads w c.requires.loads in
      made.is w ∙ both_by stores (c.in_ok-both.ensures.has_truth.is w ∙ both_by loads (c.in_ok-one.ensures.has_truth.is w));
}) c.and-2.ensures.has_truth
