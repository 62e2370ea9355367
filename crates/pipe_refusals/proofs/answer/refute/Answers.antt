use Rattle.std.proofs.Common.{sym, subst, List, Bool}
use Rattle.ctl_atoms.specs.declared.leaf.Atom.{Atom}
use Rattle.pipe_diagnosis.specs.Diagnosis.{Fails, IsDiagnosis}
use Rattle.pipe_refusals.proofs.Refuting.{fails_at, first_rule, last_rule, least_at, size_at}
use Rattle.pipe_refusals.proofs.answer.refute.Goals as goal

pub diagnose-requires-clause-first : goal.diagnose-requires-clause-first
diagnose-requires-clause-first c = first_rule c.args.file.now.variant c.args.file.now.ordered.now.design.terms c.args.file.now.settings.now c.args.rules.now.net c.args.rules.now.list c.requires.rules c.args.from c.args.failure c.requires.failure

pub diagnose-requires-clause-fails : goal.diagnose-requires-clause-fails
diagnose-requires-clause-fails c =
    let terms = c.args.file.now.ordered.now.design.terms in
    let s = c.args.file.now.settings.now in
    let r = c.args.rules.now in
    let own = fails_at c.args.file.now.variant terms s r.net r.list c.requires.rules c.args.file.now.ordered.now.order.ids c.requires.ordered r.atoms c.requires.atoms c.args.from c.args.failure c.requires.failure in
    subst (λ (w : List Bool). Fails c.args.file.now.variant terms s c.items.result.now c.args.failure.rule w) (sym c.items-2.ensures)
    (subst (λ (xs : List Atom). Fails c.args.file.now.variant terms s xs c.args.failure.rule c.args.failure.valuation.bits) (sym c.items.ensures) own)

pub returns-clause-refutation : goal.returns-clause-refutation
returns-clause-refutation c =
    let v = c.args.file.now.variant in
    let terms = c.args.file.now.ordered.now.design.terms in
    let s = c.args.file.now.settings.now in
    let r = c.args.rules.now in
    let failure = c.args.failure in
    let own = subst (λ (xs : List Atom). IsDiagnosis v terms s xs failure.rule failure.valuation.bits c.in_ok-diagnosis.diagnosis) c.items.ensures
    (subst (λ (w : List Bool). IsDiagnosis v terms s c.items.result.now failure.rule w c.in_ok-diagnosis.diagnosis) c.items-2.ensures c.in_ok-diagnosis.ensures.diagnosis) in
    record {
      first = first_rule v terms s r.net r.list c.requires.rules c.args.from failure c.requires.failure;
      last = last_rule v terms s r.net r.list c.requires.rules c.args.from failure c.requires.failure;
      size = size_at v terms s r.net r.list c.requires.rules c.args.file.now.ordered.now.order.ids c.requires.ordered r.atoms c.requires.atoms c.args.from failure c.requires.failure;
      least = least_at v terms s r.net r.list c.requires.rules c.args.file.now.ordered.now.order.ids c.requires.ordered r.atoms c.requires.atoms c.args.from failure c.requires.failure;
      diagnosis = own;
    }
