use Rattle.std.proofs.lemmas.Result.{IfOk-weaker}
use Rattle.hcl_compile.proofs.Choosing.{may_so, test_equal, test_unequal}
use Rattle.hcl_compile.proofs.choices.put_comparison.Goals as goal

pub returns-in-Eq : goal.returns-in-Eq
returns-in-Eq c =
    rw c.in-Eq.is (IfOk-weaker c.put_equal.result _ _ (λ found. may_so _ _ _ found (λ place. test_equal c.args.constants.now c.args.d.now c.put_equal.new.d c.args.to place c.args.x.now c.args.y.now)) c.put_equal.ensures)

pub returns-in-Ne : goal.returns-in-Ne
returns-in-Ne c =
    rw c.in-Ne.is (IfOk-weaker c.put_equal-in-Ne.result _ _ (λ found. may_so _ _ _ found (λ place. test_unequal c.args.constants.now c.args.d.now c.put_equal-in-Ne.new.d c.args.to place c.args.x.now c.args.y.now))
    (rw c.swapped.ensures at c.put_equal-in-Ne.ensures))
