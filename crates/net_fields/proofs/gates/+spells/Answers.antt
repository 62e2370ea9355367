use Rattle.std.proofs.Common.{sym, arith}
use Rattle.std.proofs.lemmas.Result.{IfOk-weaker}
use Rattle.net_fields.proofs.Fields.{gate_as, joined, spells_zero, spells_step}
use Rattle.net_fields.proofs.gates.+spells.Goals as goal

pub returns-then-p-eq0-clause-has_truth : goal.returns-then-p-eq0-clause-has_truth
returns-then-p-eq0-clause-has_truth t c = IfOk-weaker c.constant.result _ _ (λ g made. gate_as made (λ w. spells_zero w c.args.p.first c.args.p.bits c.args.n c.if-p-eq0.true)) c.constant.ensures.has_truth

pub returns-clause-has_truth : goal.returns-clause-has_truth
returns-clause-has_truth t c =
    IfOk-weaker c.and.result _ _ (λ g made. gate_as (joined c.in_ok-last.ensures.has_truth c.spells.ensures.extends c.in_ok-rest.ensures.has_truth made)
    (λ w. sym (spells_step w c.args.p.first c.args.p.bits c.args.n (omega arith)))) c.and.ensures.has_truth
