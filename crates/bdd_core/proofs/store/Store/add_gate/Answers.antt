use Rattle.std.proofs.Common.{sym, subst}
use Rattle.std.proofs.lemmas.Result.{IfOk-weaker}
use Rattle.nets.specs.declared.net.Gate.{Gate}
use Rattle.bdd_core.specs.Building.{IsMadeOf}
use Rattle.bdd_core.proofs.Gates.{made_true, made_false, made_var, made_and}
use Rattle.bdd_core.proofs.store.Store.add_gate.Goals as goal

pub returns-in-Const-true-clause-has_truth : goal.returns-in-Const-true-clause-has_truth
returns-in-Const-true-clause-has_truth c =
    made_true c.args.self.now c.args.made.now c.args.gate c.in-Const-true.field-0 c.vars.ensures.reduced_after c.in-Const-true.is c.in-Const-true.field-0-test

pub returns-in-Const-false-clause-has_truth : goal.returns-in-Const-false-clause-has_truth
returns-in-Const-false-clause-has_truth c =
    made_false c.args.self.now c.args.made.now c.args.gate c.in-Const-false.field-0 c.vars.ensures.reduced_after c.in-Const-false.is c.in-Const-false.field-0-test

pub returns-in-Var-clause-has_truth : goal.returns-in-Var-clause-has_truth
returns-in-Var-clause-has_truth c =
    IfOk-weaker c.make.result _ _ (λ d made. subst (λ (g : Gate). IsMadeOf c.args.self.now c.make.new.self c.args.made.now g d) (sym c.in-Var.is)
    (made_var c.args.self.now c.make.new.self c.args.made.now c.in-Var.x d c.make.ensures.reduced_after made)) c.make.ensures.has_truth

pub returns-in-And-clause-has_truth : goal.returns-in-And-clause-has_truth
returns-in-And-clause-has_truth c =
    IfOk-weaker c.apply-in-And.result _ _ (λ d made. subst (λ (g : Gate). IsMadeOf c.args.self.now c.apply-in-And.new.self c.args.made.now g d) (sym c.in-And.is)
    (made_and c.args.self.now c.apply-in-And.new.self c.args.made.now c.in-And.a c.in-And.b d c.vars.ensures.reduced_after c.apply-in-And.ensures.kept
    (c.requires.has_truth.left c.in-And.a c.in-And.b c.in-And.is) (c.requires.has_truth.right c.in-And.a c.in-And.b c.in-And.is) made)) c.apply-in-And.ensures.answer
