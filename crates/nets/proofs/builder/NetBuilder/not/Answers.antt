use Rattle.std.proofs.Common.{rules}
use Rattle.nets.proofs.Truths.{negated}
use Rattle.nets.proofs.builder.NetBuilder.not.Goals as goal

pub returns-in-Not-clause-has_truth : goal.returns-in-Not-clause-has_truth
returns-in-Not-clause-has_truth c = negated c.args.self.now c.args.a c.in-Not.inner (search rules) (search rules)
