use Rattle.std.proofs.Common.{arith}
use Rattle.std.proofs.lemmas.Result.{IfOk-weaker}
use Rattle.net_fields.proofs.allowed_numbers.codes_allowed.Goals as goal

pub returns-clause-has_truth : goal.returns-clause-has_truth
returns-clause-has_truth c = IfOk-weaker c.and-2.result _ _ (λ g made. record {
  within = made.within;
  is = λ w. grind (arith, c.at_most.ensures.extends.same, c.blank_outside.ensures.extends.same, made.is w);
}) c.and-2.ensures.has_truth
