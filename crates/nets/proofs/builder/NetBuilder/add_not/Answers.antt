use Rattle.std.proofs.Common.{rules}
use Rattle.std.proofs.lemmas.Result.{IfOk-weaker}
use Rattle.nets.proofs.Truths.{made_not}
use Rattle.nets.proofs.builder.NetBuilder.add_not.Goals as goal

pub returns-clause-has_truth : goal.returns-clause-has_truth
returns-clause-has_truth c = IfOk-weaker c.add.result _ _ (λ g made. made_not {a = c.args.a} (search rules) c.requires made) c.add.ensures.meaning
