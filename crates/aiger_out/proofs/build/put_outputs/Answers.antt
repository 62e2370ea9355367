use Rattle.std.proofs.Common.{◌≡◌, ◌+◌, ◌++◌, ◌∷◌, [], ℕ, Bool, not, if◌then◌else◌, List, ap, sym, subst, ◌∙◌}
use Rattle.aiger_out.specs.declared.form.AagLine.{AagLine}
use Rattle.nets.specs.Nets.{IsGate}
use Rattle.nets.proofs.Truths.{begins_more}
use Rattle.aiger_out.specs.Rows.{row}
use Rattle.aiger_out.specs.Values.{literal_value, output_literal}
use Rattle.aiger_out.specs.Solution.{AreOutputs, gate_values}
use Rattle.aiger_out.proofs.Built.{outputs_more}
use Rattle.aiger_out.proofs.build.put_outputs.Goals as goal

pub loop-i-preserved : goal.loop-i-preserved
loop-i-preserved c = record {
  begins = begins_more c.loop-i.invariant.begins c.in_ok-g.ensures.extends;
  outputs = subst (λ (xs : List ℕ). AreOutputs c.args.t.now.header (row c.args.t.now.rows.items) (gate_values c.args.b.now c.args.gates.now c.args.none) (c.loop-i.i + 1) c.literal_gate.new.b xs) (sym pushed)
      (outputs_more c.args.t.now.header (row c.args.t.now.rows.items) c.args.b.now c.loop-i.b c.literal_gate.new.b c.args.gates.now c.args.none c.loop-i.i c.loop-i.outs.items c.in_ok-g.g c.requires
      c.loop-i.invariant.begins c.in_ok-g.ensures.extends c.loop-i.invariant.outputs made);
}
  where
    literal : c.output_literal-x.result ≡ output_literal (row c.args.t.now.rows.items (1 + c.args.t.now.header.inputs + c.loop-i.i))
    literal = c.output_literal-x.ensures ∙ ap output_literal (c.row_at.ensures ∙ ap (λ (rows : List AagLine). row rows (1 + c.args.t.now.header.inputs + c.loop-i.i)) c.as_slice.ensures.value)

    made : IsGate c.literal_gate.new.b c.in_ok-g.g (λ w. literal_value (gate_values c.loop-i.b c.args.gates.now c.args.none w) (output_literal (row c.args.t.now.rows.items (1 + c.args.t.now.header.inputs + c.loop-i.i))))
    made = subst (λ (x : ℕ). IsGate c.literal_gate.new.b c.in_ok-g.g (λ w. literal_value (gate_values c.loop-i.b c.args.gates.now c.args.none w) x)) literal c.in_ok-g.ensures.has_truth

    pushed : c.push.new.self.items ≡ c.loop-i.outs.items ++ c.in_ok-g.g ∷ []
    pushed =
        c.push.ensures.items
        ∙ ap (λ (b : Bool). if b then c.loop-i.outs.items ++ c.in_ok-g.g ∷ [] else c.loop-i.outs.items) (c.is_err.ensures.negation ∙ ap not c.if-is_err.false)
