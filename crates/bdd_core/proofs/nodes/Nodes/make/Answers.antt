use Rattle.std.proofs.lemmas.Result.{IfOk-weaker}
use Rattle.bdd_core.proofs.Making.{made_pushed, keeps_added}
use Rattle.bdd_core.proofs.nodes.Nodes.make.Goals as goal

pub returns-in-None-clause-kept : goal.returns-in-None-clause-kept
returns-in-None-clause-kept c =
    keeps_added c.args.self.now c.add.new.self (record { var = c.args.var; low = c.args.low; high = c.args.high }) c.add.result c.add.ensures.vars c.add.ensures.nodes c.add.ensures.err

pub returns-in-None-clause-has_truth : goal.returns-in-None-clause-has_truth
returns-in-None-clause-has_truth c =
    IfOk-weaker c.add.result _ _ (λ d added. made_pushed c.args.self.now c.add.new.self c.args.var c.args.low c.args.high d c.add.ensures.vars added.1 added.0) c.add.ensures.nodes
