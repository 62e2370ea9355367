use Rattle.std.proofs.lemmas.Result.{IfOk-weaker}
use Rattle.hcl_compile.proofs.Choosing.{test_behind}
use Rattle.hcl_compile.proofs.choices.put_undivided.Goals as goal

pub returns-in-None : goal.returns-in-None
returns-in-None c =
    IfOk-weaker c.put_term.result _ _ (λ place. test_behind c.args.constants.now c.args.t.now c.args.d.now c.put_by_rows.new.d c.put_term.new.d c.args.to place (rw c.in-None.is at c.in_ok-place.ensures))
    (c.put_term.ensures c.args.constants.now)
