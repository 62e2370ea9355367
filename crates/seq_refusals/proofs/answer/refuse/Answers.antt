use Rattle.std.proofs.Common.{◌≤◌, ◌∷◌, ℕ, List, length, sym, subst}
use Rattle.nets.specs.declared.evaluation.Valuation.{Valuation}
use Rattle.seq_diagnosis.specs.declared.refusal.Refutation.{Refutation}
use Rattle.seq_check.proofs.Decided.{rejects}
use Rattle.seq_check.specs.Verdicts.{Rejects}
use Rattle.seq_refusals.specs.Answered.{AreRefuted}
use Rattle.seq_refusals.proofs.Refuting.{count_is, failure_first, first_refuted, within_list}
use Rattle.seq_refusals.proofs.answer.refuse.Goals as goal

pub refute-requires-clause-failure : goal.refute-requires-clause-failure
refute-requires-clause-failure c = failure_first c.args.rules.net c.args.rules.list c.args.failure c.requires.failure

pub refute_others-requires-clause-within : goal.refute_others-requires-clause-within
refute_others-requires-clause-within c =
    let r = c.args.rules in
    subst (λ (n : ℕ). n ≤ length r.list) (sym c.in_ok-first.ensures.rule)
    (within_list c.args.file.now.which c.args.file.now.variant c.args.file.now.ordered.now.design.terms r.net r.list c.args.file.now.ordered.now.order.ids c.requires.ordered c.requires.rules c.args.failure (failure_first r.net r.list c.args.failure c.requires.failure))

pub refute_others-requires-clause-first : goal.refute_others-requires-clause-first
refute_others-requires-clause-first c =
    let r = c.args.rules in
    first_refuted c.args.file.now.which c.args.file.now.variant c.args.file.now.ordered.now.design.terms r.net r.list c.args.file.now.ordered.now.order.ids c.requires.ordered c.requires.rules r.atoms c.requires.atoms c.args.failure c.in_ok-first.first c.requires.failure
    c.in_ok-first.ensures.rule c.in_ok-first.ensures.refutation

pub returns : goal.returns
returns c =
    let r = c.args.rules in
    let which = c.args.file.now.which in
    let v = c.args.file.now.variant in
    let terms = c.args.file.now.ordered.now.design.terms in
    let x = c.in_ok-first.first in
    let own = rejects which v terms r.net r.list c.args.file.now.ordered.now.order.ids c.requires.ordered c.requires.rules c.args.failure c.requires.failure in
    let by_bits = subst (λ (w : Valuation). Rejects which v terms c.args.failure.rule w.bits) (sym c.in_ok-first.ensures.valuation) own in
    let count = count_is which v terms r.net r.list c.args.file.now.ordered.now.order.ids c.requires.ordered c.requires.rules in
    record {
      atoms = c.requires.atoms;
      rejects = subst (λ (n : ℕ). Rejects which v terms n x.valuation.bits) (sym c.in_ok-first.ensures.rule) by_bits;
      refuted = subst (λ (n : ℕ). AreRefuted which v terms r.atoms n (x ∷ c.of.result)) count
          (subst (λ (xs : List Refutation). AreRefuted which v terms r.atoms (length r.list) (x ∷ xs)) (sym c.of.ensures) c.in_ok-others.ensures);
    }
