use Rattle.std.proofs.Common.{◌-◌, arith}
use Rattle.std.proofs.lemmas.Result.{IfOk-weaker}
use Rattle.hcl_compile.proofs.Valuing.{case_end, case_more, is_truth, valued_case}
use Rattle.hcl_compile.proofs.choices.+valuing.Goals as goal

pub put_case-loop-left-preserved : goal.put_case-loop-left-preserved
put_case-loop-left-preserved t c =
    case_more c.args.constants.now c.args.all.now c.args.d.now c.loop-left.d c.put_value.new.d c.put_test.new.d c.index-all-left.result c.loop-left.left (c.loop-left.left - 1) c.loop-left.place
    c.in_ok-value.value c.in_ok-place.place (omega (arith, c.loop-left-test.true)) c.index-all-left.is c.loop-left.invariant c.in_ok-value.ensures c.in_ok-place.ensures

pub put_case-returns : goal.put_case-returns
put_case-returns t c = case_end c.args.constants.now c.args.all.now c.args.d.now c.loop-left.d c.loop-left.left c.loop-left.place c.loop-left.invariant (omega (arith, c.loop-left-test.false))

pub put_value-put_truth-requires : goal.put_value-put_truth-requires
put_value-put_truth-requires t c = is_truth c.args.t.now c.in_default-t.not-Num c.in_default-t.not-Name c.in_default-t.not-Case

pub put_value-returns-in-Some-number_target : goal.put_value-returns-in-Some-number_target
put_value-returns-in-Some-number_target t c =
    IfOk-weaker c.put_case.result _ _ (λ place. valued_case c.args.constants.now c.args.t.now c.in-Case.all c.args.d.now c.put_case.new.d place c.in-Case.is) (rw c.items.ensures at c.put_case.ensures)
