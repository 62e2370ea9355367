use Rattle.std.proofs.Common.{rules}
use Rattle.std.proofs.lemmas.Result.{IfOk-weaker}
use Rattle.nets.proofs.Truths.{made_and}
use Rattle.nets.proofs.builder.NetBuilder.add_and.Goals as goal

pub returns-clause-has_truth : goal.returns-clause-has_truth
returns-clause-has_truth c = IfOk-weaker c.add.result _ _ (λ g made. made_and {a = c.args.a} {b = c.args.b} (search rules) c.requires.left c.requires.right made) c.add.ensures.meaning
