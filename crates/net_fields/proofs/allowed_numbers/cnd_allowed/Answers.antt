use Rattle.std.proofs.Common.{arith}
use Rattle.std.proofs.lemmas.Result.{IfOk-weaker}
use Rattle.net_fields.proofs.allowed_numbers.cnd_allowed.Goals as goal

pub returns-clause-has_truth : goal.returns-clause-has_truth
returns-clause-has_truth c = IfOk-weaker c.choose.result _ _ (λ g made. record {
  within = made.within;
  is = λ w. grind (arith, c.spells-2.ensures.extends.same, c.below.ensures.extends.same, c.or.ensures.extends.same, c.not.ensures.extends.same, made.is w);
}) c.choose.ensures.has_truth
