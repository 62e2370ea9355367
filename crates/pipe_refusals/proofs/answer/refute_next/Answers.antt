use Rattle.std.proofs.Common.{◌∙◌, ◌∷◌, ap, drop, length, Option, List, sym, subst, arith}
use Rattle.ctl_rules.specs.declared.rules.Rule.{Rule}
use Rattle.ctl_verdicts.specs.Decisions.{HaveGatesOfNet, IsRuleDecision}
use Rattle.ctl_verdicts.specs.declared.decision.FailedRule.{FailedRule}
use Rattle.pipe_diagnosis.specs.declared.refusal.Refutation.{Refutation}
use Rattle.pipe_refusals.specs.Answered.{AreRefuted}
use Rattle.control_check.proofs.Tails.{gates_from}
use Rattle.pipe_refusals.proofs.Refuting.{gates_of, next_rule, one_more, rest_holds, within_list}
use Rattle.pipe_refusals.proofs.answer.refute_next.Goals as goal

pub decide_pipe-requires : goal.decide_pipe-requires
decide_pipe-requires c =
    let r = c.args.rules.now in
    let whole = gates_of c.args.file.now.variant c.args.file.now.ordered.now.design.terms c.args.file.now.settings.now r.net r.list c.requires.rules in
    record {
      gates = subst (HaveGatesOfNet r.net) (sym (c.rules_from.ensures ∙ ap (drop c.args.from) c.items-list.ensures)) (gates_from r.net r.list c.args.from whole);
    }

pub refute-requires-clause-failure : goal.refute-requires-clause-failure
refute-requires-clause-failure c =
    let r = c.args.rules.now in
    subst (λ (o : Option FailedRule). IsRuleDecision r.net (drop c.args.from r.list) o) c.in-Some.is
    (subst (λ (xs : List Rule). IsRuleDecision r.net xs c.in_ok-decide_pipe.field-0) (c.rules_from.ensures ∙ ap (drop c.args.from) c.items-list.ensures) c.in_ok-decide_pipe.ensures)

pub returns-in-None-clause-refuted : goal.returns-in-None-clause-refuted
returns-in-None-clause-refuted c =
    let r = c.args.rules.now in
    let v = c.args.file.now.variant in
    let terms = c.args.file.now.ordered.now.design.terms in
    let s = c.args.file.now.settings.now in
    let all = c.args.first.now ∷ c.args.others.now.items in
    let h = subst (λ (o : Option FailedRule). IsRuleDecision r.net (drop c.args.from r.list) o) c.in-None.is
    (subst (λ (xs : List Rule). IsRuleDecision r.net xs c.in_ok-decide_pipe.field-0) (c.rules_from.ensures ∙ ap (drop c.args.from) c.items-list.ensures) c.in_ok-decide_pipe.ensures) in
    subst (λ (xs : List Rule). AreRefuted v terms s r.atoms (length xs) all) (sym c.items-list.ensures)
    (rest_holds v terms s r.net r.list c.requires.rules c.args.file.now.ordered.now.order.ids c.requires.ordered r.atoms c.requires.atoms c.args.from all
    (let from = c.requires.from in omega (arith, from)) h c.requires.refuted)

pub returns-in_ok-push-in-Some-clause-refuted : goal.returns-in_ok-push-in-Some-clause-refuted
returns-in_ok-push-in-Some-clause-refuted c =
    let r = c.args.rules.now in
    let v = c.args.file.now.variant in
    let terms = c.args.file.now.ordered.now.design.terms in
    let s = c.args.file.now.settings.now in
    let old = c.args.others.now.items in
    let x = c.in_ok-refutation-in-Some.refutation in
    let h = subst (λ (o : Option FailedRule). IsRuleDecision r.net (drop c.args.from r.list) o) c.in-Some.is
    (subst (λ (xs : List Rule). IsRuleDecision r.net xs c.in_ok-decide_pipe.field-0) (c.rules_from.ensures ∙ ap (drop c.args.from) c.items-list.ensures) c.in_ok-decide_pipe.ensures) in
    subst (λ (xs : List Refutation). AreRefuted v terms s r.atoms c.in-Some.failure.rule (c.args.first.now ∷ xs)) (sym c.in_ok-push-in-Some.ensures)
    (one_more v terms s r.net r.list c.requires.rules c.args.file.now.ordered.now.order.ids c.requires.ordered r.atoms c.requires.atoms c.args.from c.in-Some.failure (c.args.first.now ∷ old) x h
    c.in_ok-refutation-in-Some.ensures.rule c.in_ok-refutation-in-Some.ensures.refutation c.requires.refuted)

pub returns-in_ok-push-in-Some-clause-more : goal.returns-in_ok-push-in-Some-clause-more
returns-in_ok-push-in-Some-clause-more c =
    let r = c.args.rules.now in
    let h = subst (λ (o : Option FailedRule). IsRuleDecision r.net (drop c.args.from r.list) o) c.in-Some.is
    (subst (λ (xs : List Rule). IsRuleDecision r.net xs c.in_ok-decide_pipe.field-0) (c.rules_from.ensures ∙ ap (drop c.args.from) c.items-list.ensures) c.in_ok-decide_pipe.ensures) in
    next_rule c.args.file.now.variant c.args.file.now.ordered.now.design.terms c.args.file.now.settings.now r.net r.list c.requires.rules c.args.from c.in-Some.failure h

pub returns-in_ok-push-in-Some-clause-within : goal.returns-in_ok-push-in-Some-clause-within
returns-in_ok-push-in-Some-clause-within c =
    let r = c.args.rules.now in
    let h = subst (λ (o : Option FailedRule). IsRuleDecision r.net (drop c.args.from r.list) o) c.in-Some.is
    (subst (λ (xs : List Rule). IsRuleDecision r.net xs c.in_ok-decide_pipe.field-0) (c.rules_from.ensures ∙ ap (drop c.args.from) c.items-list.ensures) c.in_ok-decide_pipe.ensures) in
    within_list c.args.file.now.variant c.args.file.now.ordered.now.design.terms c.args.file.now.settings.now r.net r.list c.requires.rules c.args.from c.in-Some.failure h
