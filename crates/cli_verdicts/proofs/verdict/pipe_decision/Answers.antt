use Rattle.cli_verdicts.proofs.Verdicts.{tells_no}
use Rattle.cli_verdicts.proofs.verdict.pipe_decision.Goals as goal

pub returns-in-Ok-clause-verdict : goal.returns-in-Ok-clause-verdict
returns-in-Ok-clause-verdict c =
    tells_no c.args.variant c.args.bound.now.ordered.design.terms c.args.bound.now.ordered.order.ids c.in-Ok-No.rule c.in-Ok-No.valuation c.in-Ok-No.atoms c.in-Ok.text.items c.requires.order
    (rw c.in-Ok-No.field-0-is at c.in-Ok-No.ensures.verdict)
    (rw c.items.ensures at c.in-Ok.ensures.text)
