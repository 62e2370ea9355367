use Rattle.std.proofs.lemmas.Result.{IfOk-weaker}
use Rattle.bdd_decide.proofs.Forced.{gates_inside}
use Rattle.bdd_decide.proofs.subproblems.forced_subproblem.Goals as goal

pub with_forced-requires : goal.with_forced-requires
with_forced-requires c = gates_inside c.args.net.now c.args.gates.now c.args.count c.args.part.bits c.args.part.number c.in_ok-whole.whole c.in_ok-whole.ensures

pub returns : goal.returns
returns c = IfOk-weaker c.with_forced.result _ _ (λ new same. same c.args.net.now c.args.gates.now c.args.count c.args.part.bits c.args.part.number c.in_ok-whole.ensures) c.with_forced.ensures
