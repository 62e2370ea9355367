use Rattle.std.proofs.Common.{sym, subst, List, Bool}
use Rattle.ctl_atoms.specs.declared.leaf.Atom.{Atom}
use Rattle.seq_diagnosis.specs.Diagnosis.{Fails, IsDiagnosis}
use Rattle.seq_refusals.proofs.Refuting.{fails_at, first_rule, last_rule, least_at}
use Rattle.seq_refusals.proofs.answer.refute.Goals as goal

pub diagnose-requires-clause-fails : goal.diagnose-requires-clause-fails
diagnose-requires-clause-fails c =
    let which = c.args.file.now.which in
    let v = c.args.file.now.variant in
    let terms = c.args.file.now.ordered.now.design.terms in
    let r = c.args.rules.now in
    let failure = c.args.failure in
    let own = fails_at which v terms r.net r.list c.args.file.now.ordered.now.order.ids c.requires.ordered c.requires.rules r.atoms c.requires.atoms failure c.requires.failure in
    subst (λ (w : List Bool). Fails which v terms c.items.result.now failure.rule w) (sym c.items-2.ensures)
    (subst (λ (xs : List Atom). Fails which v terms xs failure.rule failure.valuation.bits) (sym c.items.ensures) own)

pub returns-clause-refutation : goal.returns-clause-refutation
returns-clause-refutation c =
    let which = c.args.file.now.which in
    let v = c.args.file.now.variant in
    let terms = c.args.file.now.ordered.now.design.terms in
    let r = c.args.rules.now in
    let failure = c.args.failure in
    let ids = c.args.file.now.ordered.now.order.ids in
    let own = subst (λ (xs : List Atom). IsDiagnosis which v terms xs failure.rule failure.valuation.bits c.in_ok-diagnosis.diagnosis) c.items.ensures
    (subst (λ (w : List Bool). IsDiagnosis which v terms c.items.result.now failure.rule w c.in_ok-diagnosis.diagnosis) c.items-2.ensures c.in_ok-diagnosis.ensures.diagnosis) in
    record {
      first = first_rule which v terms r.net r.list ids c.requires.ordered c.requires.rules failure c.requires.failure;
      last = last_rule which v terms r.net r.list ids c.requires.ordered c.requires.rules failure c.requires.failure;
      least = least_at which v terms r.net r.list ids c.requires.ordered c.requires.rules r.atoms c.requires.atoms failure c.requires.failure;
      diagnosis = own;
    }
