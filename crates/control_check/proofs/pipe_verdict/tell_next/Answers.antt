use Rattle.std.proofs.Common.{drop, subst, length, None, Some, Option, List, ℕ}
use Rattle.ctl_rules.specs.declared.rules.Rule.{Rule}
use Rattle.ctl_verdicts.specs.Decisions.{IsRuleDecision}
use Rattle.ctl_verdicts.specs.declared.decision.FailedRule.{FailedRule}
use Rattle.control_check.specs.Tails.{IsFilled}
use Rattle.control_check.proofs.Tails.{all_left, next_left, next_more}
use Rattle.control_check.proofs.pipe_verdict.tell_next.Goals as goal

pub returns-in_ok-fill-in-None-clause-told : goal.returns-in_ok-fill-in-None-clause-told
returns-in_ok-fill-in-None-clause-told c =
    let net = c.args.net.now in
    let list = c.args.list.now in
    let old = c.args.truths.now.items in
    let here = subst (λ (o : Option FailedRule). IsRuleDecision net (drop c.how_many-from.result list) o) c.in-None.is (subst (λ (xs : List Rule). IsRuleDecision net xs c.in_ok-decide_pipe.field-0) c.rules_from.ensures c.in_ok-decide_pipe.ensures) in
    let h = subst (λ (n : ℕ). IsRuleDecision net (drop n list) None) c.how_many-from.ensures here in
    all_left net list old c.fill.new.truths.items c.requires.told h c.in_ok-fill-in-None.ensures

pub returns-in_ok-push-in-Some-clause-told : goal.returns-in_ok-push-in-Some-clause-told
returns-in_ok-push-in-Some-clause-told c =
    let net = c.args.net.now in
    let list = c.args.list.now in
    let old = c.args.truths.now.items in
    let here = subst (λ (o : Option FailedRule). IsRuleDecision net (drop c.how_many-from.result list) o) c.in-Some.is (subst (λ (xs : List Rule). IsRuleDecision net xs c.in_ok-decide_pipe.field-0) c.rules_from.ensures c.in_ok-decide_pipe.ensures) in
    let h = subst (λ (n : ℕ). IsRuleDecision net (drop n list) (Some c.in-Some.failure)) c.how_many-from.ensures here in
    next_left net list old c.fill-in-Some.new.truths.items c.push.new.list.items c.in-Some.failure c.requires.numbers c.requires.told h (subst (λ (n : ℕ). IsFilled old n c.fill-in-Some.new.truths.items) c.saturating_sub.ensures c.in_ok-fill-in-Some.ensures)
    c.in_ok-push-in-Some.ensures

pub returns-in_ok-push-in-Some-clause-more : goal.returns-in_ok-push-in-Some-clause-more
returns-in_ok-push-in-Some-clause-more c =
    let net = c.args.net.now in
    let list = c.args.list.now in
    let old = c.args.truths.now.items in
    let here = subst (λ (o : Option FailedRule). IsRuleDecision net (drop c.how_many-from.result list) o) c.in-Some.is (subst (λ (xs : List Rule). IsRuleDecision net xs c.in_ok-decide_pipe.field-0) c.rules_from.ensures c.in_ok-decide_pipe.ensures) in
    let h = subst (λ (n : ℕ). IsRuleDecision net (drop n list) (Some c.in-Some.failure)) c.how_many-from.ensures here in
    next_more net list old c.fill-in-Some.new.truths.items c.push.new.list.items c.in-Some.failure c.requires.numbers h (subst (λ (n : ℕ). IsFilled old n c.fill-in-Some.new.truths.items) c.saturating_sub.ensures c.in_ok-fill-in-Some.ensures)
    c.in_ok-push-in-Some.ensures
