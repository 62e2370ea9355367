use Rattle.std.proofs.Common.{◌∷◌, [], ◌+◌, Option, List, ap, sym, subst, ◌∙◌, slice_get}
use Rattle.ctl_rules.specs.declared.rules.Rule.{Rule}
use Rattle.ctl_verdicts.specs.Decisions.{IsRuleDecision}
use Rattle.ctl_verdicts.specs.declared.decision.FailedRule.{FailedRule}
use Rattle.seq_diagnosis.specs.declared.refusal.Refutation.{Refutation}
use Rattle.seq_refusals.specs.Answered.{AreRefuted}
use Rattle.seq_check.proofs.Decided.{gates_of}
use Rattle.seq_refusals.proofs.Refuting.{next_holds, next_refuted, one_false, one_true, place_one}
use Rattle.seq_refusals.proofs.answer.refute_at.Goals as goal

pub decide_one-requires : goal.decide_one-requires
decide_one-requires c =
    let r = c.args.rules.now in
    gates_of c.args.file.now.which c.args.file.now.variant c.args.file.now.ordered.now.design.terms r.net r.list c.args.file.now.ordered.now.order.ids c.requires.ordered c.requires.rules c.args.k c.rule_at-rule.result
    (ap (λ (xs : List Rule). slice_get xs c.args.k) (sym c.items.ensures) ∙ c.rule_at-rule.ensures)

pub refute-requires-clause-failure : goal.refute-requires-clause-failure
refute-requires-clause-failure c =
    let r = c.args.rules.now in
    let at = ap (λ (xs : List Rule). slice_get xs c.args.k) (sym c.items.ensures) ∙ c.rule_at-rule.ensures in
    let d = subst (λ (o : Option FailedRule). IsRuleDecision r.net (c.rule_at-rule.result ∷ []) o) c.in-Some.is c.in_ok-decide_one.ensures in
    one_false r.net r.list c.args.k c.rule_at-rule.result c.in-Some.failure at d

pub returns-in-None : goal.returns-in-None
returns-in-None c =
    let r = c.args.rules.now in
    let at = ap (λ (xs : List Rule). slice_get xs c.args.k) (sym c.items.ensures) ∙ c.rule_at-rule.ensures in
    let d = subst (λ (o : Option FailedRule). IsRuleDecision r.net (c.rule_at-rule.result ∷ []) o) c.in-None.is c.in_ok-decide_one.ensures in
    next_holds c.args.file.now.which c.args.file.now.variant c.args.file.now.ordered.now.design.terms r.net r.list c.args.file.now.ordered.now.order.ids c.requires.ordered c.requires.rules r.atoms c.requires.atoms c.args.k
    (c.args.first.now ∷ c.args.others.now.items) c.rule_at-rule.result at (one_true r.net c.rule_at-rule.result d) c.requires.refuted

pub returns-in_ok-push-in-Some : goal.returns-in_ok-push-in-Some
returns-in_ok-push-in-Some c =
    let r = c.args.rules.now in
    let at = ap (λ (xs : List Rule). slice_get xs c.args.k) (sym c.items.ensures) ∙ c.rule_at-rule.ensures in
    let d = subst (λ (o : Option FailedRule). IsRuleDecision r.net (c.rule_at-rule.result ∷ []) o) c.in-Some.is c.in_ok-decide_one.ensures in
    let x = c.in_ok-refutation-in-Some.refutation in
    let number = c.in_ok-refutation-in-Some.ensures.rule ∙ place_one c.args.file.now.which c.args.file.now.variant c.args.file.now.ordered.now.design.terms r.net r.list c.args.file.now.ordered.now.order.ids c.requires.ordered c.requires.rules c.args.k c.rule_at-rule.result c.in-Some.failure at d in
    subst (λ (xs : List Refutation). AreRefuted c.args.file.now.which c.args.file.now.variant c.args.file.now.ordered.now.design.terms r.atoms (c.args.k + 1) (c.args.first.now ∷ xs)) (sym c.in_ok-push-in-Some.ensures)
    (next_refuted c.args.file.now.which c.args.file.now.variant c.args.file.now.ordered.now.design.terms r.net r.list c.args.file.now.ordered.now.order.ids c.requires.ordered c.requires.rules r.atoms c.requires.atoms c.args.k
    (c.args.first.now ∷ c.args.others.now.items) x number c.in_ok-refutation-in-Some.ensures.refutation c.requires.refuted)
