use Rattle.std.proofs.Common.{arith, ◌∙◌, true, ap, set, subst, sym}
use Rattle.bdd_core.specs.Meaning.{IsLeastFalsifying}
use Rattle.bdd_core.specs.declared.nodes.ChoiceNode.{ChoiceNode}
use Rattle.bdd_core.proofs.Least.{IsDown, down_low, down_high, down_end}
use Rattle.bdd_core.proofs.store.Store.least_false.Goals as goal

pub loop-at-preserved-then-node-eq1 : goal.loop-at-preserved-then-node-eq1
loop-at-preserved-then-node-eq1 c =
    let is = c.node_of-node.ensures.node in
    record {
      down = subst (λ (n : ChoiceNode). IsDown c.args.self.now c.args.d n.high (set c.loop-at.bits.items n.var true)) (sym is)
          (down_high c.vars-vars.ensures.reduced_after c.loop-at-test.true c.loop-at.invariant.down (sym (ap (λ (n : ChoiceNode). n.low) is) ∙ c.if-node-eq1.true));
    }

pub loop-at-preserved : goal.loop-at-preserved
loop-at-preserved c =
    let is = c.node_of-node.ensures.node in
    record {
      down = subst (λ (n : ChoiceNode). IsDown c.args.self.now c.args.d n.low c.loop-at.bits.items) (sym is)
          (down_low c.vars-vars.ensures.reduced_after c.loop-at-test.true c.loop-at.invariant.down (λ e. c.if-node-eq1.false (ap (λ (n : ChoiceNode). n.low) is ∙ e)));
    }

pub returns : goal.returns
returns c =
    subst (IsLeastFalsifying c.args.self.now c.args.d) (sym c.of.ensures)
    (down_end c.args.self.now c.args.d c.loop-at.at c.loop-at.bits.items c.vars-vars.ensures.reduced_after c.loop-at.invariant.down (omega arith))
