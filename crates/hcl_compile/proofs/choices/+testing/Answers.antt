use Rattle.std.proofs.Common.{◌-◌, arith}
use Rattle.std.proofs.lemmas.Result.{IfOk-weaker}
use Rattle.hcl_types.specs.Terms.{names, word_meaning}
use Rattle.hcl_compile.proofs.Choosing.{rest_end, rest_more, rest_none, test_and, test_not, test_or}
use Rattle.hcl_compile.proofs.choices.+testing.Goals as goal

pub put_test-returns-in-Not : goal.put_test-returns-in-Not
put_test-returns-in-Not t c = IfOk-weaker c.put_test.result _ _ (λ place. test_not c.args.constants.now _ _ c.args.to place c.args.t.now _ c.in-Not.is) (rw (c.get.ensures, c.swapped.ensures) at c.put_test.ensures)

pub put_test-returns-in-And : goal.put_test-returns-in-And
put_test-returns-in-And t c = IfOk-weaker c.put_terms.result _ _ (λ place. test_and c.args.constants.now _ _ c.args.to place c.args.t.now _ c.in-And.is) (rw c.items.ensures at c.put_terms.ensures)

pub put_test-returns-in-Or : goal.put_test-returns-in-Or
put_test-returns-in-Or t c = IfOk-weaker c.put_terms-in-Or.result _ _ (λ place. test_or c.args.constants.now _ _ c.args.to place c.args.t.now _ c.in-Or.is) (rw c.items-in-Or.ensures at c.put_terms-in-Or.ensures)

pub put_terms-loop-left-init : goal.put_terms-loop-left-init
put_terms-loop-left-init t c = rest_none c.args.constants.now c.args.quantifier names (λ env. word_meaning.holds) c.args.all.now c.args.d.now c.args.to _ _ (omega arith) c.of_none-place.ensures

pub put_terms-loop-left-preserved : goal.put_terms-loop-left-preserved
put_terms-loop-left-preserved t c =
    rest_more c.args.constants.now c.args.quantifier names (λ env. word_meaning.holds) c.args.all.now c.args.d.now c.args.to c.loop-left.d c.put_test.new.d c.index-all-left.result c.loop-left.left (c.loop-left.left - 1) c.loop-left.place _
    (omega (arith, c.loop-left-test.true)) c.index-all-left.is c.loop-left.invariant (rw c.ahead_of.ensures at c.in_ok-place.ensures)

pub put_terms-returns : goal.put_terms-returns
put_terms-returns t c =
    rest_end c.args.constants.now c.args.quantifier names (λ env. word_meaning.holds) c.args.all.now c.args.d.now c.args.to c.loop-left.d c.loop-left.left c.loop-left.place c.loop-left.invariant (omega (arith, c.loop-left-test.false))
