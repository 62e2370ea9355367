use Rattle.std.proofs.Common.{List, Bool, false, ◌≡◌, subst}
use Rattle.nets.specs.Nets.{gate_value, truth, truths}
use Rattle.nets.specs.declared.net.Gate.{Gate}
use Rattle.nets.proofs.Forcing.{negated_bit, settle_one}
use Rattle.nets.proofs.implied.settle.Goals as goal

pub returns-in-Var-gate-clause-settle : goal.returns-in-Var-gate-clause-settle
returns-in-Var-gate-clause-settle c u is h =
    let n = c.args.n.now in
    let meaning = subst (λ (g : Gate). (w : List Bool) → truth n c.args.gate w ≡ gate_value w (truths n w) g) c.in-Not.is c.gate.ensures.meaning in
    let inner = subst (λ (g : Gate). (w : List Bool) → truth n c.in-Not.a w ≡ gate_value w (truths n w) g) c.in-Var-gate.is c.gate-in-Not.ensures.meaning in
    settle_one c.args.to.now c.in-Var-gate.x false u (negated_bit n c.args.gate c.in-Not.a c.in-Var-gate.x u meaning inner is) h
