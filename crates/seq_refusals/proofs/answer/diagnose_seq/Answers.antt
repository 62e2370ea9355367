use Rattle.std.proofs.Common.{List, Some, subst}
use Rattle.ctl_rules.specs.declared.rules.Rule.{Rule}
use Rattle.seq_plus.specs.Datapaths.{rows_of}
use Rattle.ctl_verdicts.specs.Decisions.{IsRuleDecision}
use Rattle.seq_check.proofs.Decided.{decided_accepts, decided_gates, decided_refines}
use Rattle.seq_refusals.proofs.answer.diagnose_seq.Goals as goal

pub decide-requires : goal.decide-requires
decide-requires c =
    let made = c.in-Ok.rules in
    decided_gates c.args.which c.args.v c.args.ordered.now.design.terms made.net made.list c.args.ordered.now.order.ids c.requires.ordered c.in-Ok.ensures.rules _ c.items.ensures

pub refuse-requires-clause-failure : goal.refuse-requires-clause-failure
refuse-requires-clause-failure c =
    let made = c.in-Ok.rules in
    subst (λ (list : List Rule). IsRuleDecision made.net list (Some c.in-Ok-Some.failure)) c.items.ensures (rw c.in-Ok-Some.field-0-is at c.in-Ok-Some.ensures)

pub returns-in-Err-clause-fault : goal.returns-in-Err-clause-fault
returns-in-Err-clause-fault c = c.check_fault.ensures (rows_of c.args.which) c.args.ordered.now.design.terms c.in-Err.ensures.fault

pub returns-in-Ok-None-clause-answer : goal.returns-in-Ok-None-clause-answer
returns-in-Ok-None-clause-answer c =
    let made = c.in-Ok.rules in
    decided_accepts c.args.which c.args.v c.args.ordered.now.design.terms made.net made.list c.args.ordered.now.order.ids c.requires.ordered c.in-Ok.ensures.rules _ c.items.ensures (rw c.in-Ok-None.field-0-is at c.in-Ok-None.ensures)

pub returns-in-Ok-None-clause-refines : goal.returns-in-Ok-None-clause-refines
returns-in-Ok-None-clause-refines c =
    let made = c.in-Ok.rules in
    λ yes. decided_refines c.args.which c.args.v c.args.ordered.now.design.terms made.net made.list c.args.ordered.now.order.ids c.requires.ordered c.in-Ok.ensures.rules _ c.items.ensures c.requires.bound (rw c.in-Ok-None.field-0-is at c.in-Ok-None.ensures)
