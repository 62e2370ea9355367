use Rattle.std.proofs.lemmas.Result.{IfOk-weaker}
use Rattle.hcl_compile.proofs.Valuing.{truth_value}
use Rattle.hcl_compile.proofs.choices.put_truth.Goals as goal

pub returns-in-Some-Some : goal.returns-in-Some-Some
returns-in-Some-Some c =
    IfOk-weaker c.put_test.result _ _ (λ place. truth_value c.args.constants.now c.args.t.now c.args.d.now c.put_test.new.d _ place c.requires
    (rw c.in-Some-Some.is-0 at c.number_target.ensures) (rw c.in-Some-Some.is-1 at c.number_target-2.ensures)) c.put_test.ensures
