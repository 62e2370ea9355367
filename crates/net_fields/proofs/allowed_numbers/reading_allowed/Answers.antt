use Rattle.std.proofs.Common.{arith}
use Rattle.std.proofs.lemmas.Result.{IfOk-weaker}
use Rattle.net_fields.proofs.allowed_numbers.reading_allowed.Goals as goal

pub returns-clause-has_truth : goal.returns-clause-has_truth
returns-clause-has_truth c = IfOk-weaker c.and.result _ _ (λ g made. record {
  within = made.within;
  is = λ w. grind (arith, c.constant.ensures.extends.same, c.spells_if.ensures.extends.same, c.at_most.ensures.extends.same, made.is w);
}) c.and.ensures.has_truth
