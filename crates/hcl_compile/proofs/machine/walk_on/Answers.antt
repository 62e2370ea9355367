use Rattle.std.proofs.Common.{arith, sym, ◌∙◌}
use Rattle.hcl_compile.proofs.Walked.{row_end, walk_has, walk_nearer, walk_next, walk_value}
use Rattle.hcl_compile.proofs.machine.walk_on.Goals as goal

pub loop-place-smaller : goal.loop-place-smaller
loop-place-smaller c = rw c.answer_to.ensures.value (walk_nearer _ _ _ _ _ c.loop-place-test.true c.loop-place.invariant.ends c.in_default.not-Value)

pub loop-place-preserved : goal.loop-place-preserved
loop-place-preserved c =
    rw c.answer_to.ensures.value (walk_next _ _ _ _ _ c.loop-place-test.true c.args.target c.loop-place.invariant.ends c.loop-place.invariant.same c.in_default.not-Value)

pub answer_to-requires : goal.answer_to-requires
answer_to-requires c = walk_has _ _ _ _ _ c.loop-place-test.true c.loop-place.invariant.ends c.in_default.not-Value

pub returns : goal.returns
returns c word ends = sym (row_end _ _ _ _ _ word (omega (arith, c.loop-place-test.false)) (c.loop-place.invariant.same word ends)).1

pub returns-in-Value : goal.returns-in-Value
returns-in-Value c word ends =
    c.value_of.ensures ∙ walk_value _ _ _ _ _ c.loop-place-test.true c.in-Value.k word c.index-terms-k.result c.in-Value.is c.index-terms-k.is (c.loop-place.invariant.same word ends)
