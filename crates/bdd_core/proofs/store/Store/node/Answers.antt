use Rattle.std.proofs.Common.{ap}
use Rattle.bdd_core.specs.declared.nodes.ChoiceNode.{ChoiceNode}
use Rattle.bdd_core.proofs.Exact.{node_choice}
use Rattle.bdd_core.proofs.store.Store.node.Goals as goal

pub returns : goal.returns
returns c =
    let is = c.node_of-node.ensures.node in
    node_choice c.args.self.now c.args.d (record { id = c.node_of-node.result.low }) (record { id = c.node_of-node.result.high }) c.node_of-node.result.var
    c.vars.ensures.reduced_after c.requires c.if-d-eq0.false c.if-d-eq1.false (ap (λ (n : ChoiceNode). n.var) is) (ap (λ (n : ChoiceNode). n.low) is) (ap (λ (n : ChoiceNode). n.high) is)
