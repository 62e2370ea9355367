use Rattle.std.proofs.Common.{rules, ◌<◌, length, subst, sym}
use Rattle.std.proofs.lemmas.Result.{IfOk-weaker}
use Rattle.nets.specs.declared.net.Gate.{Gate}
use Rattle.nets.specs.Nets.{IsGate, gate_value, truths}
use Rattle.nets.specs.Substitution.{behind}
use Rattle.nets.proofs.Gates.{not_made, and_made}
use Rattle.nets.proofs.copies.copy_gate.Goals as goal

pub returns-in-Not-clause-has_truth : goal.returns-in-Not-clause-has_truth
returns-in-Not-clause-has_truth c =
    let h : c.in-Not.a < length c.args.made.now = search rules in
    IfOk-weaker c.not.result _ _ (λ g made. subst (λ (x : Gate). IsGate c.not.new.self g (λ u. gate_value (behind c.args.to.now u) (truths c.args.n.now (behind c.args.to.now u)) x)) (sym c.in-Not.is)
    (not_made c.requires.copies h made)) c.not.ensures.has_truth

pub returns-in-And-clause-has_truth : goal.returns-in-And-clause-has_truth
returns-in-And-clause-has_truth c =
    let h : c.in-And.x < length c.args.made.now = search rules in
    let k : c.in-And.y < length c.args.made.now = search rules in
    IfOk-weaker c.and.result _ _ (λ g made. subst (λ (x : Gate). IsGate c.and.new.self g (λ u. gate_value (behind c.args.to.now u) (truths c.args.n.now (behind c.args.to.now u)) x)) (sym c.in-And.is)
    (and_made c.requires.copies h k made)) c.and.ensures.has_truth
