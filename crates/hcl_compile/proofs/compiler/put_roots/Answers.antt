use Rattle.hcl_compile.proofs.Rooted.{rooted_end, rooted_more}
use Rattle.hcl_compile.proofs.compiler.put_roots.Goals as goal

pub loop-t-preserved : goal.loop-t-preserved
loop-t-preserved c = rooted_more c.args.constants.now _ _ c.args.all.now c.t-item.result c.loop-t.t-index _ _ _ c.loop-t-test.true c.t-item.is c.loop-t.invariant c.in_ok-root.ensures c.in_ok-push.ensures

pub returns : goal.returns
returns c = rooted_end c.args.constants.now c.loop-t.d c.args.all.now c.loop-t.t-index _ c.loop-t-test.false c.loop-t.invariant
