use Rattle.std.proofs.Common.{arith}
use Rattle.std.proofs.lemmas.Result.{IfOk-weaker}
use Rattle.net_fields.proofs.allowed_numbers.stat_allowed.Goals as goal

pub returns-clause-has_truth : goal.returns-clause-has_truth
returns-clause-has_truth c = IfOk-weaker c.or-3.result _ _ (λ g made. record {
  within = made.within;
  is = λ w. grind (arith, c.spells_if-2.ensures.extends.same, c.spells_if-3.ensures.extends.same, c.spells_if-4.ensures.extends.same, made.is w);
}) c.or-3.ensures.has_truth
