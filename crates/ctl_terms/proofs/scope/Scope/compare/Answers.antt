use Rattle.std.proofs.Common.{◌∙◌}
use Rattle.std.proofs.lemmas.Result.{IfOk-weaker}
use Rattle.ctl_picks.specs.TakenPicks.{at}
use Rattle.ctl_terms.proofs.Pairs.{chosen_pairs}
use Rattle.ctl_terms.proofs.scope.Scope.compare.Goals as goal

pub returns-clause-is : goal.returns-clause-is
returns-clause-is c = λ w α x y h p q.
    IfOk-weaker c.pairs.result _ _ (λ _ is. is ∙ chosen_pairs (at c.args.b.now w) α c.args.op c.args.ps.now c.args.qs.now x y p q) (c.pairs.ensures.is w α h)
