-- An AIGER text has one list of counts.
use Rattle.std.proofs.Common.{◌≡◌, ℕ, ◌<◌, Bool, List, length, get_or, sym, ap, ◌∙◌, subst, inl, inr, arith}
use Rattle.std.proofs.lemmas.List.{get_or_default, same_lists}
use Rattle.aiger_out.specs.Form.{IsAag}
use Rattle.aiger_out.specs.Values.{Out}
use Rattle.aiger_out.specs.declared.form.Header.{Header}
use Rattle.aiger_out.proofs.OneAnswer.{not_both, one_fault, one_solution}
use Rattle.aiger_run.specs.PrintedCounts.{IsCount, PrintsCounts, counts_text}
use Rattle.aiger_run.specs.Vectors.{vector}
use Rattle.aiger_run.proofs.Places.{same_count}
use Rattle.cli_obligations.specs.AigerTexts.{AigrunAnswers, aag_reason}
use Rattle.cli_plans.specs.Lines.{fault_line}
use Rattle.cli_plans.specs.Plan.{Answer, done, refused}

module _ (text : List ℕ) (seed : ℕ) where
  one_value : (h : Header) → IsAag 1000000 text h → (i : ℕ) (bits : List Bool) (x y : Bool) → Out h text i bits x → Out h text i bits y → x ≡ y
  one_value h form i bits x y a b =
      let env = (one_solution 1000000 text h bits form).some in
      sym (a.is env.0 env.1) ∙ b.is env.0 env.1

  one_count : (h : Header) → IsAag 1000000 text h → (i m n : ℕ) → IsCount h text seed i m → IsCount h text seed i n → m ≡ n
  one_count h form i m n a b =
      a.count ∙ same_count a.value b.value 512 (λ p lt. one_value h form i (vector seed p h.inputs) (a.value p) (b.value p) (a.outs p lt) (b.outs p lt)) ∙ sym b.count

  one_header : (h k : Header) → IsAag 1000000 text h → IsAag 1000000 text k → h ≡ k
  one_header h k a b = cc (a.header, b.header)

  counts_one : (a b : List ℕ) → PrintsCounts text seed a → PrintsCounts text seed b → a ≡ b
  counts_one a b h k = h.lines ∙ ap counts_text (same_lists h.counts k.counts size each) ∙ sym k.lines
    where
      outputs : h.header.outputs ≡ k.header.outputs
      outputs = ap (λ (x : Header). x.outputs) (one_header h.header k.header h.form k.form)

      size : length h.counts ≡ length k.counts
      size = h.size ∙ outputs ∙ sym k.size

      count_in : (i : ℕ) → i < k.header.outputs → IsCount k.header text seed i (get_or h.counts i 0)
      count_in i lt =
          subst (λ x. IsCount x text seed i (get_or h.counts i 0)) (one_header h.header k.header h.form k.form) (h.are i (omega (arith, lt, outputs)))

      each : (i d : ℕ) → i < length h.counts → get_or h.counts i d ≡ get_or k.counts i d
      each i d lt =
          let inside : i < k.header.outputs = omega (arith, lt, size, k.size) in
          get_or_default h.counts i d 0 lt
          ∙ one_count k.header k.form i (get_or h.counts i 0) (get_or k.counts i 0) (count_in i inside) (k.are i inside)
          ∙ sym (get_or_default k.counts i d 0 (omega (arith, lt, size)))

  pub aigrun_one : (name : List ℕ) (a b : Answer) → AigrunAnswers name text seed a → AigrunAnswers name text seed b → a ≡ b
  aigrun_one name a b (inl h) (inl k) = h.told ∙ ap (λ t. done 0 t) (counts_one h.counts k.counts h.tells k.tells) ∙ sym k.told
  aigrun_one name a b (inl h) (inr k) = absurd (not_both 1000000 text h.tells.header k.line k.why h.tells.form k.fault)
  aigrun_one name a b (inr h) (inl k) = absurd (not_both 1000000 text k.tells.header h.line h.why k.tells.form h.fault)
  aigrun_one name a b (inr h) (inr k) =
      let one = one_fault 1000000 text h.line k.line h.why k.why h.fault k.fault in
      h.told ∙ ap (λ l. refused 5 (fault_line name l (aag_reason h.why))) one.0 ∙ ap (λ w. refused 5 (fault_line name k.line (aag_reason w))) one.1 ∙ sym k.told
