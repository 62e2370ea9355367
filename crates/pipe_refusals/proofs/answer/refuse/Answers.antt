use Rattle.std.proofs.Common.{◌≤◌, ◌∷◌, [], ℕ, List, length, sym, subst}
use Rattle.nets.specs.declared.evaluation.Valuation.{Valuation}
use Rattle.control_check.proofs.PipeVerdict.{rejects}
use Rattle.control_check.specs.PipeVerdicts.{RejectsPipe}
use Rattle.pipe_diagnosis.specs.declared.refusal.Refutation.{Refutation}
use Rattle.pipe_refusals.specs.Answered.{AreRefuted}
use Rattle.pipe_refusals.proofs.Refuting.{none_refuted, one_more, within_list}
use Rattle.pipe_refusals.proofs.answer.refuse.Goals as goal

pub refute-requires-clause-failure : goal.refute-requires-clause-failure
refute-requires-clause-failure c = c.requires.failure

pub refute_others-requires-clause-within : goal.refute_others-requires-clause-within
refute_others-requires-clause-within c =
    let r = c.args.rules in
    subst (λ (n : ℕ). n ≤ length r.list) (sym c.in_ok-first.ensures.rule)
    (within_list c.args.file.now.variant c.args.file.now.ordered.now.design.terms c.args.file.now.settings.now r.net r.list c.requires.rules 0 c.args.failure c.requires.failure)

pub refute_others-requires-clause-first : goal.refute_others-requires-clause-first
refute_others-requires-clause-first c =
    let r = c.args.rules in
    let v = c.args.file.now.variant in
    let terms = c.args.file.now.ordered.now.design.terms in
    let s = c.args.file.now.settings.now in
    let x = c.in_ok-first.first in
    subst (λ (n : ℕ). AreRefuted v terms s r.atoms n (x ∷ [])) (sym c.in_ok-first.ensures.rule)
    (one_more v terms s r.net r.list c.requires.rules c.args.file.now.ordered.now.order.ids c.requires.ordered r.atoms c.requires.atoms 0 c.args.failure [] x c.requires.failure
    c.in_ok-first.ensures.rule c.in_ok-first.ensures.refutation
    (none_refuted v terms s r.net r.list c.requires.rules c.args.file.now.ordered.now.order.ids c.requires.ordered r.atoms c.requires.atoms))

pub returns : goal.returns
returns c =
    let r = c.args.rules in
    let v = c.args.file.now.variant in
    let terms = c.args.file.now.ordered.now.design.terms in
    let s = c.args.file.now.settings.now in
    let x = c.in_ok-first.first in
    let own = rejects v terms c.args.file.now.ordered.now.order.ids c.requires.ordered s r.net r.list c.args.failure c.requires.settings c.requires.rules c.requires.failure in
    let by_bits = subst (λ (w : Valuation). RejectsPipe v terms c.args.failure.rule w.bits) (sym c.in_ok-first.ensures.valuation) own in
    record {
      settings = c.requires.settings;
      atoms = c.requires.atoms;
      rejects = subst (λ (n : ℕ). RejectsPipe v terms n x.valuation.bits) (sym c.in_ok-first.ensures.rule) by_bits;
      refuted = subst (λ (n : ℕ). AreRefuted v terms s r.atoms n (x ∷ c.of.result)) c.requires.rules.count
          (subst (λ (xs : List Refutation). AreRefuted v terms s r.atoms (length r.list) (x ∷ xs)) (sym c.of.ensures) c.in_ok-others.ensures);
    }
