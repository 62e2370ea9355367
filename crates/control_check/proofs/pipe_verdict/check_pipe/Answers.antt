use Rattle.std.proofs.Common.{List, None, Some, sym, subst}
use Rattle.ctl_rules.specs.declared.rules.Rule.{Rule}
use Rattle.pipe_theorem.proofs.Top.{accepted_refines}
use Rattle.ctl_verdicts.specs.Decisions.{HaveGatesOfNet, IsRuleDecision}
use Rattle.control_check.proofs.PipeVerdict.{accepts, rejects, rules_gates}
use Rattle.control_check.proofs.pipe_verdict.check_pipe.Goals as goal

pub decide_pipe-requires : goal.decide_pipe-requires
decide_pipe-requires c =
    let s = c.in_ok-made.made.settings in
    let made = c.in_ok-made.made.rules in
    let rules = c.in_ok-made.ensures.rules in
    record {
      gates = subst (HaveGatesOfNet made.net) (sym c.items.ensures) (rules_gates c.args.variant c.args.ordered.now.design.terms c.args.ordered.now.order.ids c.requires.ordered s made.net made.list rules);
    }

pub returns-in-Ok-None-clause-verdict : goal.returns-in-Ok-None-clause-verdict
returns-in-Ok-None-clause-verdict c =
    let s = c.in_ok-made.made.settings in
    let made = c.in_ok-made.made.rules in
    let rules = c.in_ok-made.ensures.rules in
    let decided = subst (λ (list : List Rule). IsRuleDecision made.net list None) c.items.ensures (rw c.in-Ok-None.field-0-is at c.in-Ok-None.ensures) in
    accepts c.args.variant c.args.ordered.now.design.terms c.args.ordered.now.order.ids c.requires.ordered s made.net made.list c.in_ok-made.ensures.settings rules decided

pub returns-in-Ok-None-clause-refines : goal.returns-in-Ok-None-clause-refines
returns-in-Ok-None-clause-refines c =
    let s = c.in_ok-made.made.settings in
    let made = c.in_ok-made.made.rules in
    let rules = c.in_ok-made.ensures.rules in
    let decided = subst (λ (list : List Rule). IsRuleDecision made.net list None) c.items.ensures (rw c.in-Ok-None.field-0-is at c.in-Ok-None.ensures) in
    let accepted = accepts c.args.variant c.args.ordered.now.design.terms c.args.ordered.now.order.ids c.requires.ordered s made.net made.list c.in_ok-made.ensures.settings rules decided in
    λ yes image k is_image pure. accepted_refines (record { v = c.args.variant; s = s; image = image }) c.args.ordered.now.design.terms c.args.ordered.now.order.ids
    accepted.settings.atoms c.requires.bound c.requires.ordered accepted.holds k is_image pure

pub returns-in-Ok-Some-clause-verdict : goal.returns-in-Ok-Some-clause-verdict
returns-in-Ok-Some-clause-verdict c =
    let s = c.in_ok-made.made.settings in
    let made = c.in_ok-made.made.rules in
    let rules = c.in_ok-made.ensures.rules in
    let decided = subst (λ (list : List Rule). IsRuleDecision made.net list (Some c.in-Ok-Some.failure)) c.items.ensures (rw c.in-Ok-Some.field-0-is at c.in-Ok-Some.ensures) in
    (rejects c.args.variant c.args.ordered.now.design.terms c.args.ordered.now.order.ids c.requires.ordered s made.net made.list c.in-Ok-Some.failure c.in_ok-made.ensures.settings rules decided, c.in_ok-made.ensures.atoms)
