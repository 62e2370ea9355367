use Rattle.std.proofs.Common.{◌≡◌, Bool, not, if◌then◌else◌, ◌<◌, ◌+◌, ◌++◌, ◌∷◌, [], List, ◌∙◌, ℕ, ap, sym, subst, arith, length, take}
use Rattle.std.proofs.lemmas.List.{length-take}
use Rattle.nets.specs.Nets.{ReadsEarlier}
use Rattle.aiger_out.specs.Graphs.{IsGraphOf, IsLiteralOf}
use Rattle.aiger_out.proofs.Growth.{graph_more}
use Rattle.aiger_out.proofs.graph.graph_of.Goals as goal

pub loop-i-preserved : goal.loop-i-preserved
loop-i-preserved c = record {
  vars = c.loop-i.invariant.vars;
  within = omega (arith, inside);
  graph = subst (λ (xs : List ℕ). IsGraphOf c.vars-vars.result (take (c.loop-i.i + 1) c.args.n.now.gates) xs c.gate_literal.new.ands.items) (sym pushed) more;
}
  where
    inside : c.loop-i.i < length c.args.n.now.gates
    inside = omega (arith, c.loop-i-test.true, c.len.ensures)

    count : length c.loop-i.literals.items ≡ c.loop-i.i
    count = omega (arith, c.loop-i.invariant.graph.size, length-take c.loop-i.i c.args.n.now.gates, inside)

    earlier : ReadsEarlier c.vars-vars.result (length c.loop-i.literals.items) c.gate.result
    earlier = subst (λ (m : ℕ). ReadsEarlier c.vars-vars.result m c.gate.result) (sym count)
        (subst (λ (v : ℕ). ReadsEarlier v c.loop-i.i c.gate.result) (sym c.loop-i.invariant.vars) c.gate.ensures.earlier)

    literal : IsLiteralOf c.vars-vars.result c.gate.result c.loop-i.literals.items c.loop-i.ands.items c.gate_literal.new.ands.items c.in-Ok.x
    literal = subst (λ (xs : List ℕ). IsLiteralOf c.vars-vars.result c.gate.result xs c.loop-i.ands.items c.gate_literal.new.ands.items c.in-Ok.x) c.as_slice.ensures.value c.in-Ok.ensures.literal

    more : IsGraphOf c.vars-vars.result (take (c.loop-i.i + 1) c.args.n.now.gates) (c.loop-i.literals.items ++ c.in-Ok.x ∷ []) c.gate_literal.new.ands.items
    more = graph_more c.vars-vars.result c.args.n.now.gates c.loop-i.i c.gate.result c.loop-i.literals.items c.loop-i.ands.items c.gate_literal.new.ands.items c.in-Ok.x
        c.gate.ensures.is inside c.loop-i.invariant.graph earlier literal

    pushed : c.push.new.self.items ≡ c.loop-i.literals.items ++ c.in-Ok.x ∷ []
    pushed =
        c.push.ensures.items
        ∙ ap (λ (b : Bool). if b then c.loop-i.literals.items ++ c.in-Ok.x ∷ [] else c.loop-i.literals.items) (c.is_err.ensures.negation ∙ ap not c.if-is_err.false)
