use Rattle.std.proofs.Common.{List, Some, subst}
use Rattle.ctl_rules.specs.declared.rules.Rule.{Rule}
use Rattle.ctl_verdicts.specs.Decisions.{IsRuleDecision}
use Rattle.seq_plus.specs.Datapaths.{rows_of}
use Rattle.seq_check.proofs.Decided.{decided_accepts, decided_gates, decided_refines, rejects}
use Rattle.seq_check.proofs.verdict.check_seq.Goals as goal

pub decide-requires : goal.decide-requires
decide-requires c =
    let made = c.in-Ok.rules in
    decided_gates c.args.which c.args.variant c.args.ordered.now.design.terms made.net made.list c.args.ordered.now.order.ids c.requires.ordered c.in-Ok.ensures.rules _ c.items.ensures

pub returns-in-Err-clause-fault : goal.returns-in-Err-clause-fault
returns-in-Err-clause-fault c = c.check_fault.ensures (rows_of c.args.which) c.args.ordered.now.design.terms c.in-Err.ensures.fault

pub returns-in-Ok-None-clause-verdict : goal.returns-in-Ok-None-clause-verdict
returns-in-Ok-None-clause-verdict c =
    let made = c.in-Ok.rules in
    decided_accepts c.args.which c.args.variant c.args.ordered.now.design.terms made.net made.list c.args.ordered.now.order.ids c.requires.ordered c.in-Ok.ensures.rules _ c.items.ensures (rw c.in-Ok-None.field-0-is at c.in-Ok-None.ensures)

pub returns-in-Ok-None-clause-refines : goal.returns-in-Ok-None-clause-refines
returns-in-Ok-None-clause-refines c =
    let made = c.in-Ok.rules in
    λ yes. decided_refines c.args.which c.args.variant c.args.ordered.now.design.terms made.net made.list c.args.ordered.now.order.ids c.requires.ordered c.in-Ok.ensures.rules _ c.items.ensures c.requires.bound (rw c.in-Ok-None.field-0-is at c.in-Ok-None.ensures)

pub returns-in-Ok-Some-clause-verdict : goal.returns-in-Ok-Some-clause-verdict
returns-in-Ok-Some-clause-verdict c =
    let made = c.in-Ok.rules in
    let decided = subst (λ (list : List Rule). IsRuleDecision made.net list (Some c.in-Ok-Some.failure)) c.items.ensures (rw c.in-Ok-Some.field-0-is at c.in-Ok-Some.ensures) in
    (rejects c.args.which c.args.variant c.args.ordered.now.design.terms made.net made.list c.args.ordered.now.order.ids c.requires.ordered c.in-Ok.ensures.rules c.in-Ok-Some.failure decided, c.in-Ok.ensures.atoms)
