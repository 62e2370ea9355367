use Rattle.std.proofs.Common.{◌-◌, arith}
use Rattle.hcl_compile.specs.declared.targets.Quantifier.TheVariants.{Any}
use Rattle.hcl_compile.proofs.Choosing.{equals, pair_names, rest_end, rest_more, test_member}
use Rattle.hcl_compile.proofs.Made.{keeps_both}
use Rattle.hcl_compile.proofs.choices.put_membership.Goals as goal

pub loop-left-preserved : goal.loop-left-preserved
loop-left-preserved c =
    rest_more c.args.constants.now Any (pair_names c.args.x.now) (equals c.args.x.now) c.args.all.now c.args.d.now c.args.to c.loop-left.d c.put_equal.new.d c.index-all-left.result c.loop-left.left (c.loop-left.left - 1)
    c.loop-left.place c.in-Some.equal (omega (arith, c.loop-left-test.true)) c.index-all-left.is c.loop-left.invariant (rw (c.in-Some.is, c.ahead_of.ensures) at c.in_ok-equal.ensures)

pub returns-in-None : goal.returns-in-None
returns-in-None c = keeps_both c.args.d.now c.loop-left.d c.put_equal.new.d c.loop-left.invariant.1.keeps (rw c.in-None.is at c.in_ok-equal.ensures)

pub returns : goal.returns
returns c =
    test_member c.args.constants.now c.args.x.now c.args.all.now c.args.d.now c.loop-left.d c.args.to c.loop-left.place
    (rest_end c.args.constants.now Any (pair_names c.args.x.now) (equals c.args.x.now) c.args.all.now c.args.d.now c.args.to c.loop-left.d c.loop-left.left c.loop-left.place c.loop-left.invariant (omega (arith, c.loop-left-test.false)))
