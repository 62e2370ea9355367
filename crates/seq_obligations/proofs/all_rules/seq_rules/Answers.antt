use Rattle.std.proofs.lemmas.Result.{IfOk-weaker}
use Rattle.seq_obligations.specs.Designed.{rules_are}
use Rattle.seq_obligations.proofs.all_rules.seq_rules.Goals as goal

pub returns-clause-rules : goal.returns-clause-rules
returns-clause-rules c = IfOk-weaker c.designed_rules.result _ _ (λ _ made. rules_are c.args.v c.args.ordered.now.design.terms _ _ made) c.designed_rules.ensures.rules
