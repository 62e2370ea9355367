use Rattle.std.proofs.Common.{sym, ◌∙◌, arith}
use Rattle.hcl_read.proofs.Machines.{none_negated, once_more}
use Rattle.hcl_read.proofs.steps.negate.Goals as goal

pub loop-i-preserved : goal.loop-i-preserved
loop-i-preserved c = once_more c.args.nots c.loop-i._i c.args.e _ _ c.loop-i-test.true c.in_ok-of.ensures c.loop-i.invariant

pub returns : goal.returns
returns c =
    sym (none_negated c.args.nots c.loop-i._i c.loop-i.all (omega arith)) ∙ c.loop-i.invariant
