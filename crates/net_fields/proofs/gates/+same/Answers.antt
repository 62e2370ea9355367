use Rattle.std.proofs.Common.{sym, arith}
use Rattle.std.proofs.lemmas.Result.{IfOk-weaker}
use Rattle.net_fields.specs.Spelling.{spelt}
use Rattle.net_fields.proofs.Fields.{gate_as, joined, spells_zero, equals_zero, same_step}
use Rattle.net_fields.proofs.gates.+same.Goals as goal

pub returns-then-p-eq0-clause-has_truth : goal.returns-then-p-eq0-clause-has_truth
returns-then-p-eq0-clause-has_truth t c = IfOk-weaker c.spells.result _ _ (λ g made. gate_as made (λ w. spells_zero w c.args.p.first c.args.p.bits (spelt w c.args.q.first c.args.q.bits) c.if-p-eq0.true)) c.spells.ensures.has_truth

pub returns-then-q-eq0-clause-has_truth : goal.returns-then-q-eq0-clause-has_truth
returns-then-q-eq0-clause-has_truth t c = IfOk-weaker c.spells-then-q-eq0.result _ _ (λ g made. gate_as made (λ w. equals_zero w c.args.q.first c.args.q.bits (spelt w c.args.p.first c.args.p.bits) c.if-q-eq0.true)) c.spells-then-q-eq0.ensures.has_truth

pub returns-clause-has_truth : goal.returns-clause-has_truth
returns-clause-has_truth t c =
    IfOk-weaker c.and.result _ _ (λ g made. gate_as (joined c.in_ok-last.ensures.has_truth c.same.ensures.extends c.in_ok-rest.ensures.has_truth made)
    (λ w. sym (same_step w c.args.p.first c.args.p.bits c.args.q.first c.args.q.bits (omega arith) (omega arith)))) c.and.ensures.has_truth
