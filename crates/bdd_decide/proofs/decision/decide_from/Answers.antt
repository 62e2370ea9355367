use Rattle.std.proofs.Common.{List, ℕ, ◌≡◌, ◌-◌, length, drop, take, arith, subst}
use Rattle.std.proofs.lemmas.List.{length-drop, take_all}
use Rattle.bdd_decide.specs.Decisions.{IsGateDecision}
use Rattle.bdd_decide.proofs.Deciding.{later_first, later_true}
use Rattle.bdd_decide.proofs.decision.decide_from.Goals as goal

pub returns-in-Some : goal.returns-in-Some
returns-in-Some g c =
    let gates = c.args.gates.now in
    let e : take (length gates - c.args.from) (drop c.args.from gates) ≡ drop c.args.from gates = take_all (length gates - c.args.from) (drop c.args.from gates) (omega (arith, length-drop c.args.from gates)) in
    let decided : IsGateDecision c.args.net.now (drop c.args.from gates) c.in_ok-counter.field-0 = subst (λ (xs : List ℕ). IsGateDecision c.args.net.now xs c.in_ok-counter.field-0) e c.in_ok-counter.ensures in
    later_first c.args.net.now gates c.args.from c.requires.from c.requires.earlier c.in-Some.counter.place c.in-Some.counter.valuation.bits (rw c.in-Some.is at decided)

pub returns-in-None : goal.returns-in-None
returns-in-None g c =
    let gates = c.args.gates.now in
    let e : take (length gates - c.args.from) (drop c.args.from gates) ≡ drop c.args.from gates = take_all (length gates - c.args.from) (drop c.args.from gates) (omega (arith, length-drop c.args.from gates)) in
    let decided : IsGateDecision c.args.net.now (drop c.args.from gates) c.in_ok-counter.field-0 = subst (λ (xs : List ℕ). IsGateDecision c.args.net.now xs c.in_ok-counter.field-0) e c.in_ok-counter.ensures in
    later_true c.args.net.now gates c.args.from c.requires.from c.requires.earlier (rw c.in-None.is at decided)
