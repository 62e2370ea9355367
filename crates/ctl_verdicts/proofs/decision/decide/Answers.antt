use Rattle.std.proofs.Common.{List, ℕ, subst}
use Rattle.bdd_decide.specs.Decisions.{IsGateDecision}
use Rattle.ctl_verdicts.proofs.decision.decide.Goals as goal

pub returns : goal.returns
returns c =
    c.failure_of.ensures c.args.net.now c.in_ok-gates.gates.items c.in_ok-gates.ensures
    (subst (λ (xs : List ℕ). IsGateDecision c.args.net.now xs c.in_ok-counter.counter) c.as_slice.ensures.value c.in_ok-counter.ensures)
