use Rattle.std.proofs.Common.{◌≡◌, ◌+◌, ◌++◌, ◌∷◌, [], ℕ, Bool, not, if◌then◌else◌, List, ap, sym, subst, ◌∙◌}
use Rattle.aiger_out.specs.WrittenLines.{AreNegated, IsNegated, gates_of}
use Rattle.aiger_out.proofs.WrittenText.{negated_more}
use Rattle.aiger_out.proofs.writer.output_literals.Goals as goal

pub loop-k-preserved : goal.loop-k-preserved
loop-k-preserved c =
    let old = c.loop-k.outs.items in
    let x = c.output_literal-x.result in
    let pushed : c.push.new.self.items ≡ old ++ x ∷ [] =
    c.push.ensures.items ∙ ap (λ (b : Bool). if b then old ++ x ∷ [] else old) (c.is_err.ensures.negation ∙ ap not c.if-is_err.false) in
    subst (λ (xs : List ℕ). AreNegated (c.loop-k.k + 1) (gates_of c.args.rules.now) c.args.literals.now xs) (sym pushed)
    (negated_more (gates_of c.args.rules.now) c.args.literals.now old c.loop-k.k x c.loop-k.invariant
    (subst (λ (g : ℕ). IsNegated c.args.literals.now g x) c.gate_at.ensures c.output_literal-x.ensures))
