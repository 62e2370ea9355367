-- The text of the writer has the form, and its outputs are the negations of the rules' gates.
use Rattle.std.proofs.Common.{◌≡◌, ◌⊎◌, inl, inr, ℕ, ◌+◌, ◌-◌, ◌*◌, ◌/◌, ◌^◌, ◌<◌, ◌≤◌, Bool, true, false, not, ◌&&◌, ◌||◌, ◌==◌, nat_lt, max, if◌then◌else◌, All, List, [], ◌∷◌, ◌++◌, length, get_or, slice_get, Option, Some, None, option_and_then, option_map, unwrap_or, append_assoc, refl, sym, ap, ◌∙◌, subst, arith}
use Rattle.std.specs.Option.{option_map_or}
use Rattle.std.proofs.lemmas.Bool.{cases_lt, or_left, or_right}
use Rattle.std.proofs.lemmas.Bool.Decides.{nat_tests}
use Rattle.std.proofs.lemmas.List.{get_or_append_left, get_or_past, get_or_push, length-map, length_push}
use Rattle.std.proofs.lemmas.Option.{get_or_from_slice_get, slice_get-map, slice_get_past, unwrap_or-slice_get}
use Rattle.nets.specs.Nets.{Gates, truth, truths, values}
use Rattle.nets.proofs.Truths.{values_length}
use Rattle.y86_base.specs.Text.{HasNoLineFeed, after_byte, with_line_feeds}
use Rattle.aiger_out.specs.declared.fault.AagWhy.{AagWhy}
use Rattle.aiger_out.specs.declared.fault.AagWhy.TheVariants.{Syntax}
use Rattle.aiger_out.specs.declared.form.AndLine.{AndLine}
use Rattle.aiger_out.specs.declared.form.Header.{Header}
use Rattle.aiger_out.specs.declared.form.AagLine.{AagLine}
use Rattle.aiger_out.specs.declared.form.AagLine.TheVariants.{Input, Output, And, Other}
use Rattle.aiger_out.specs.declared.graph.And as code
use Rattle.ctl_rules.specs.declared.rules.Rule.{Rule}
use Rattle.aiger_out.specs.Lines.{ended, header_of, number_at, one_number, three_numbers, unended}
use Rattle.aiger_out.specs.Form.{and_line, ands_from, comment_within, fault_at, has_more, header_fault, input_line, is_comment, is_symbol, line_at, line_fault, line_read, names_below, output_line, outputs_from, rest_from, symbol_behind, tail_fault, text_fault, text_header}
use Rattle.aiger_out.specs.Graphs.{IsGraphOf, IsGraphSolution, and_at}
use Rattle.aiger_out.specs.Values.{AreValues, IsMet, literal_value, output_literal}
use Rattle.aiger_out.specs.Written.{IsAagOf, and_text, decimal, each, header_text, input_symbol, output_symbol}
use Rattle.aiger_out.specs.WrittenLines.{AreNegated, IsHeaderOf, IsNegated, and_line_of, gate_of, gates_of, number_of, numbers_of, output_symbol_of, written_lines}
use Rattle.aiger_out.proofs.Decimal.{AreWords, and_free, and_read, decimal_free, ended_all, header_free, header_read, input_symbol_free, number_read, one_read, output_symbol_free, unended_none}
use Rattle.aiger_out.proofs.Sections.{section_a, section_b, section_c, section_d, section_e, sections_free, sections_size}
use Rattle.aiger_out.proofs.FromRows.{line_first}
use Rattle.aiger_out.proofs.Each.{fed_append}
use Rattle.aiger_out.proofs.Laid.{Laid, laid_fine, half}
use Rattle.aiger_out.proofs.OneAnswer.{no_fault}

of_some : (h : Header) (lines : List (List ℕ)) (j : ℕ) (line : List ℕ) (r : AagLine) → slice_get lines j ≡ Some line → line_read h j line ≡ r → line_at h lines j ≡ r
unfolding line_at
of_some h lines j line r e f = ap (λ (x : Option (List ℕ)). option_map_or (line_read h j) x Other) e ∙ f

as_input : (h : Header) (j : ℕ) (line : List ℕ) (x : ℕ) → 1 ≤ j → j < outputs_from h → one_number line ≡ Some x → line_read h j line ≡ Input x
as_input h j line x from to e =
    let a : (j == 0) ≡ false = grind (arith, nat_tests) in
    let b : nat_lt j (outputs_from h) ≡ true = grind (arith, nat_tests) in
    rw (a, b) (ap input_line e)

as_output : (h : Header) (j : ℕ) (line : List ℕ) (x : ℕ) → outputs_from h ≤ j → j < ands_from h → one_number line ≡ Some x → line_read h j line ≡ Output x
as_output h j line x from to e =
    let a : (j == 0) ≡ false = grind (arith, nat_tests) in
    let b : nat_lt j (outputs_from h) ≡ false = grind (arith, nat_tests) in
    let c : nat_lt j (ands_from h) ≡ true = grind (arith, nat_tests) in
    rw (a, b, c) (ap output_line e)

as_and : (h : Header) (j : ℕ) (line : List ℕ) (x : AndLine) → ands_from h ≤ j → j < rest_from h → three_numbers line ≡ Some x → line_read h j line ≡ And x
as_and h j line x from to e =
    let a : (j == 0) ≡ false = grind (arith, nat_tests) in
    let b : nat_lt j (outputs_from h) ≡ false = grind (arith, nat_tests) in
    let c : nat_lt j (ands_from h) ≡ false = grind (arith, nat_tests) in
    let d : nat_lt j (rest_from h) ≡ true = grind (arith, nat_tests) in
    rw (a, b, c, d) (ap and_line e)

named : (count k : ℕ) (rest name : List ℕ) (n : ℕ) → number_at rest ≡ Some (n, 32 ∷ name) → n < count → 0 < length name → symbol_behind count (Some rest) ≡ true
named count k rest [] n e low some = absurd (omega (arith, some))
named count k rest (x ∷ name) n e low some =
    let t : nat_lt n count ≡ true = grind (arith, nat_tests) in
    ap (names_below count) e ∙ ap (λ (b : Bool). b && true) t

-- a symbol's line has no fault, whether after a comment or not
no_tail_fault : (h : Header) (b : Bool) (line : List ℕ) (c : Bool) → is_symbol h line ≡ true → (if b then None else (if is_symbol h line || c then None else Some Syntax)) ≡ None
no_tail_fault h true line c e = refl
no_tail_fault h false line c e = ap (λ (t : Bool). if t || c then None else Some Syntax) e

both_false : (a b : Bool) → b ≡ false → (a && b) ≡ false
both_false true b e = e
both_false false b e = refl

-- the lines of the writer
module _ (h : Header) (outs : List ℕ) (ands : List code.And) (numbers : List ℕ) (w : AreWords h) (text : List ℕ) (is : text ≡ with_line_feeds (written_lines h outs ands numbers)) where
  lines_free : All HasNoLineFeed (written_lines h outs ands numbers)
  lines_free =
      sections_free (header_text h) (λ k. decimal (2 * (k + 1))) (λ k. decimal (get_or outs k 0)) (λ k. and_text (and_line_of h.inputs ands k)) input_symbol (output_symbol_of numbers) h.inputs h.outputs h.ands
      (header_free h) (λ k. decimal_free (2 * (k + 1))) (λ k. decimal_free (get_or outs k 0)) (λ k. and_free (and_line_of h.inputs ands k)) input_symbol_free (λ k. output_symbol_free k (get_or numbers k 0))

  pub all_lines : ended text ≡ written_lines h outs ands numbers
  all_lines = ap ended is ∙ ended_all (written_lines h outs ands numbers) lines_free

  pub none_left : has_more text ≡ false
  none_left = ap (λ (xs : List ℕ). nat_lt 0 (length xs)) (ap unended is ∙ unended_none (written_lines h outs ands numbers) lines_free)

  there : (j : ℕ) (line : List ℕ) → slice_get (written_lines h outs ands numbers) j ≡ Some line → slice_get (ended text) j ≡ Some line
  there j line e = ap (λ (ls : List (List ℕ)). slice_get ls j) all_lines ∙ e

  pub header_line : text_header text ≡ Some h
  header_line = ap (option_and_then header_of) (there 0 (header_text h) refl) ∙ header_read h w

  pub input_here : (k : ℕ) → k < h.inputs → 2 * (k + 1) < 2 ^ 64 → line_at h (ended text) (1 + k) ≡ Input (2 * (k + 1))
  input_here k l s =
      of_some h (ended text) (1 + k) (decimal (2 * (k + 1))) (Input (2 * (k + 1)))
      (there (1 + k) (decimal (2 * (k + 1))) (section_a (header_text h) (λ i. decimal (2 * (i + 1))) (λ i. decimal (get_or outs i 0)) (λ i. and_text (and_line_of h.inputs ands i)) input_symbol (output_symbol_of numbers) h.inputs h.outputs h.ands k l))
      (as_input h (1 + k) (decimal (2 * (k + 1))) (2 * (k + 1)) (omega arith) (omega (arith, l)) (one_read (2 * (k + 1)) s))

  pub output_here : (k : ℕ) → k < h.outputs → get_or outs k 0 < 2 ^ 64 → line_at h (ended text) (outputs_from h + k) ≡ Output (get_or outs k 0)
  output_here k l s =
      of_some h (ended text) (outputs_from h + k) (decimal (get_or outs k 0)) (Output (get_or outs k 0))
      (there (outputs_from h + k) (decimal (get_or outs k 0)) (section_b (header_text h) (λ i. decimal (2 * (i + 1))) (λ i. decimal (get_or outs i 0)) (λ i. and_text (and_line_of h.inputs ands i)) input_symbol (output_symbol_of numbers) h.inputs h.outputs h.ands k l))
      (as_output h (outputs_from h + k) (decimal (get_or outs k 0)) (get_or outs k 0) (omega arith) (omega (arith, l)) (one_read (get_or outs k 0) s))

  pub and_here : (k : ℕ) → k < h.ands → 2 * (h.inputs + (k + 1)) < 2 ^ 64 → (and_at ands k).first < 2 ^ 64 → (and_at ands k).second < 2 ^ 64
      → line_at h (ended text) (ands_from h + k) ≡ And (and_line_of h.inputs ands k)
  and_here k l s x y =
      of_some h (ended text) (ands_from h + k) (and_text (and_line_of h.inputs ands k)) (And (and_line_of h.inputs ands k))
      (there (ands_from h + k) (and_text (and_line_of h.inputs ands k)) (section_c (header_text h) (λ i. decimal (2 * (i + 1))) (λ i. decimal (get_or outs i 0)) (λ i. and_text (and_line_of h.inputs ands i)) input_symbol (output_symbol_of numbers) h.inputs h.outputs h.ands k l))
      (as_and h (ands_from h + k) (and_text (and_line_of h.inputs ands k)) (and_line_of h.inputs ands k) (omega arith) (omega (arith, l)) (and_read (and_line_of h.inputs ands k) s x y))

  pub input_name : (k : ℕ) → k < h.inputs → slice_get (ended text) (rest_from h + k) ≡ Some (input_symbol k)
  input_name k l = there (rest_from h + k) (input_symbol k) (section_d (header_text h) (λ i. decimal (2 * (i + 1))) (λ i. decimal (get_or outs i 0)) (λ i. and_text (and_line_of h.inputs ands i)) input_symbol (output_symbol_of numbers) h.inputs h.outputs h.ands k l)

  pub output_name : (k : ℕ) → k < h.outputs → slice_get (ended text) (rest_from h + h.inputs + k) ≡ Some (output_symbol k (get_or numbers k 0))
  output_name k l = there (rest_from h + h.inputs + k) (output_symbol k (get_or numbers k 0)) (section_e (header_text h) (λ i. decimal (2 * (i + 1))) (λ i. decimal (get_or outs i 0)) (λ i. and_text (and_line_of h.inputs ands i)) input_symbol (output_symbol_of numbers) h.inputs h.outputs h.ands k l)

  pub line_count : length (ended text) ≡ rest_from h + h.inputs + h.outputs
  line_count = ap length all_lines ∙ sections_size (header_text h) (λ i. decimal (2 * (i + 1))) (λ i. decimal (get_or outs i 0)) (λ i. and_text (and_line_of h.inputs ands i)) input_symbol (output_symbol_of numbers) h.inputs h.outputs h.ands

  -- ---- no line has a fault

  input_is_symbol : (k : ℕ) → k < h.inputs → is_symbol h (input_symbol k) ≡ true
  input_is_symbol k l =
      or_left (symbol_behind h.inputs (after_byte 105 (input_symbol k))) (symbol_behind h.outputs (after_byte 111 (input_symbol k)))
      (named h.inputs k (decimal k ++ (32 ∷ 120 ∷ decimal k)) (120 ∷ decimal k) k (number_read k (32 ∷ 120 ∷ decimal k) (omega (arith, l, w.inputs)) refl) l (omega arith))

  output_is_symbol : (k : ℕ) → k < h.outputs → is_symbol h (output_symbol k (get_or numbers k 0)) ≡ true
  output_is_symbol k l =
      or_right (symbol_behind h.inputs (after_byte 105 (output_symbol k (get_or numbers k 0)))) (symbol_behind h.outputs (after_byte 111 (output_symbol k (get_or numbers k 0))))
      (named h.outputs k (decimal k ++ (32 ∷ 79 ∷ decimal (get_or numbers k 0))) (79 ∷ decimal (get_or numbers k 0)) k
      (number_read k (32 ∷ 79 ∷ decimal (get_or numbers k 0)) (omega (arith, l, w.outputs)) refl) l (omega arith))

  -- after the AND lines
  tail_by : (j : ℕ) (x : Option (List ℕ)) (r : Option AagWhy) → rest_from h ≤ j → slice_get (ended text) j ≡ x → ((b : Bool) → (if b then None else tail_fault h x (j == length (ended text) && false)) ≡ r)
      → text_fault text h j ≡ r
  unfolding fault_at
  tail_by j x r past e f =
      let a : nat_lt j (rest_from h) ≡ false = grind (arith, nat_tests) in
      ap (λ (b : Bool). if b then line_fault h (line_at h (ended text)) j (line_at h (ended text) j)
      else (if comment_within (ended text) (rest_from h) (j - rest_from h) then None
      else tail_fault h (slice_get (ended text) j) (j == length (ended text) && has_more text))) a
      ∙ (ap (λ (b : Bool). if comment_within (ended text) (rest_from h) (j - rest_from h) then None else tail_fault h (slice_get (ended text) j) (j == length (ended text) && b)) none_left
      ∙ (ap (λ (y : Option (List ℕ)). if comment_within (ended text) (rest_from h) (j - rest_from h) then None else tail_fault h y (j == length (ended text) && false)) e
      ∙ f (comment_within (ended text) (rest_from h) (j - rest_from h))))

  symbol_fine : (j : ℕ) (line : List ℕ) → rest_from h ≤ j → slice_get (ended text) j ≡ Some line → is_symbol h line ≡ true → text_fault text h j ≡ None
  symbol_fine j line past e s = tail_by j (Some line) None past e (λ b. no_tail_fault h b line (is_comment line) s)

  tail_fine : (j : ℕ) → rest_from h ≤ j → (j < rest_from h + h.inputs) ⊎ (rest_from h + h.inputs ≤ j) → (j < rest_from h + h.inputs + h.outputs) ⊎ (rest_from h + h.inputs + h.outputs ≤ j)
      → text_fault text h j ≡ None
  tail_fine j past (inl a) b =
      let e : j ≡ rest_from h + (j - rest_from h) = omega (arith, past) in
      let k : j - rest_from h < h.inputs = omega (arith, past, a) in
      symbol_fine j (input_symbol (j - rest_from h)) past (ap (slice_get (ended text)) e ∙ input_name (j - rest_from h) k) (input_is_symbol (j - rest_from h) k)
  tail_fine j past (inr a) (inl b) =
      let e : j ≡ rest_from h + h.inputs + (j - (rest_from h + h.inputs)) = omega (arith, a) in
      let k : j - (rest_from h + h.inputs) < h.outputs = omega (arith, a, b) in
      symbol_fine j (output_symbol (j - (rest_from h + h.inputs)) (get_or numbers (j - (rest_from h + h.inputs)) 0)) past (ap (slice_get (ended text)) e ∙ output_name (j - (rest_from h + h.inputs)) k)
      (output_is_symbol (j - (rest_from h + h.inputs)) k)
  tail_fine j past (inr a) (inr b) =
      tail_by j None None past (slice_get_past (ended text) j (omega (arith, b, line_count))) (λ c. no_fault c (j == length (ended text) && false) (both_false (j == length (ended text)) false refl))

-- the text as a whole
module _ (net : Gates) (gates numbers : List ℕ) (h : Header) (literals outs : List ℕ) (ands : List code.And) (text : List ℕ)
    (graph : IsGraphOf net.vars net.gates literals ands) (neg : AreNegated (length gates) gates literals outs) (hd : IsHeaderOf h net.vars (length gates) (length ands))
    (is : text ≡ with_line_feeds (written_lines h outs ands numbers)) where
  words : AreWords h
  words = record {
    most = omega (arith, hd.fits);
    inputs = omega (arith, hd.fits, hd.most, hd.inputs);
    latches = omega (arith, hd.latches);
    outputs = hd.few;
    ands = omega (arith, hd.fits, hd.most, hd.ands);
  }

  literal_low_by : (g : ℕ) → (g < length literals) ⊎ (length literals ≤ g) → get_or literals g 0 / 2 ≤ net.vars + length ands
  literal_low_by g (inl low) = graph.within g low
  literal_low_by g (inr past) = let e : get_or literals g 0 ≡ 0 = get_or_past literals g 0 past in omega (arith, e)

  out_low : (k : ℕ) → k < length gates → get_or outs k 0 / 2 ≤ net.vars + length ands
  out_low k l = omega (arith, (neg.all k l).variable, literal_low_by (get_or gates k 0) (cases_lt (get_or gates k 0) (length literals)))

  out_word : (k : ℕ) → k < length gates → get_or outs k 0 < 2 ^ 64
  out_word k l = omega (arith, out_low k l, hd.fits, hd.most)

  first_word : (k : ℕ) → k < length ands → (and_at ands k).first < 2 ^ 64
  first_word k l = omega (arith, graph.first k l, l, hd.fits, hd.most)

  second_word : (k : ℕ) → k < length ands → (and_at ands k).second < 2 ^ 64
  second_word k l = omega (arith, graph.second k l, l, hd.fits, hd.most)

  laid_out : Laid h (line_at h (ended text)) (λ k. get_or outs k 0) (λ k. (and_at ands k).first) (λ k. (and_at ands k).second)
  laid_out = record {
    total = hd.most ∙ omega (arith, hd.inputs, hd.ands);
    header = line_first h (ended text);
    inputs = λ k l. input_here h outs ands numbers words text is k l (omega (arith, l, hd.fits, hd.most, hd.inputs));
    outputs = λ k l. output_here h outs ands numbers words text is k l (out_word k (omega (arith, l, hd.outputs)));
    ands = λ k l. and_here h outs ands numbers words text is k l (omega (arith, l, hd.fits, hd.most, hd.inputs, hd.ands)) (first_word k (omega (arith, l, hd.ands))) (second_word k (omega (arith, l, hd.ands)));
    small_outs = λ k l. omega (arith, out_low k (omega (arith, l, hd.outputs)), hd.inputs, hd.ands);
    small_first = λ k l. omega (arith, graph.first k (omega (arith, l, hd.ands)), hd.inputs);
    small_second = λ k l. omega (arith, graph.second k (omega (arith, l, hd.ands)), hd.inputs);
  }

  before : (j : ℕ) → j < rest_from h → text_fault text h j ≡ line_fault h (line_at h (ended text)) j (line_at h (ended text) j)
  unfolding fault_at
  before j low = let e : nat_lt j (rest_from h) ≡ true = grind (arith, nat_tests) in rw e refl

  each_fine : (j : ℕ) → 1 ≤ j → (j < rest_from h) ⊎ (rest_from h ≤ j) → text_fault text h j ≡ None
  each_fine j from (inl low) =
      before j low ∙ laid_fine h (line_at h (ended text)) (λ k. get_or outs k 0) (λ k. (and_at ands k).first) (λ k. (and_at ands k).second) laid_out j from low
  each_fine j from (inr past) =
      tail_fine h outs ands numbers words text is j past (cases_lt j (rest_from h + h.inputs)) (cases_lt j (rest_from h + h.inputs + h.outputs))

  header_fine : header_fault (max h.most h.outputs) h ≡ None
  header_fine =
      let a : (h.latches == 0) ≡ true = grind (arith, nat_tests, hd.latches) in
      let b : nat_lt (max h.most h.outputs) h.most ≡ false = let e : h.most ≤ max h.most h.outputs = omega arith in grind (arith, nat_tests) in
      let c : nat_lt (max h.most h.outputs) h.outputs ≡ false = let e : h.outputs ≤ max h.most h.outputs = omega arith in grind (arith, nat_tests) in
      let d : nat_lt h.most (h.inputs + h.ands) ≡ false = let e : h.inputs + h.ands ≡ h.most = omega (arith, laid_out.total) in grind (arith, nat_tests) in
      rw (a, b, c, d) refl

  -- ---- values

  solves : (bits : List Bool) (env : ℕ → Bool) → AreValues (line_at h (ended text)) bits env → IsGraphSolution net.vars bits ands env
  solves bits env v = record {
    constant = v.constant;
    inputs = λ k l.
        let m : IsMet bits env (1 + k) (Input (2 * (k + 1))) = subst (IsMet bits env (1 + k)) (laid_out.inputs k (omega (arith, l, hd.inputs))) (v.met (1 + k)) in
        sym (ap env (half (k + 1))) ∙ (m ∙ ap (λ (n : ℕ). get_or bits n false) (omega arith));
    joins = λ k l.
        let m : IsMet bits env (ands_from h + k) (And (and_line_of h.inputs ands k)) = subst (IsMet bits env (ands_from h + k)) (laid_out.ands k (omega (arith, l, hd.ands))) (v.met (ands_from h + k)) in
        sym (ap env (half (h.inputs + (k + 1)) ∙ ap (λ (n : ℕ). n + (k + 1)) hd.inputs)) ∙ m;
  }

  gate_by : (bits : List Bool) (env : ℕ → Bool) → AreValues (line_at h (ended text)) bits env → (g : ℕ) → (g < length literals) ⊎ (length literals ≤ g)
      → literal_value env (get_or literals g 0) ≡ truth net g bits
  unfolding truth truths
  gate_by bits env v g (inl low) = graph.values_are bits env (solves bits env v) g low
  gate_by bits env v g (inr past) =
      ap (literal_value env) (get_or_past literals g 0 past)
      ∙ (v.constant ∙ sym (get_or_past (values bits [] net.gates) g false (omega (arith, past, graph.size, values_length bits [] net.gates))))

  value_by : (bits : List Bool) (env : ℕ → Bool) → AreValues (line_at h (ended text)) bits env → (i : ℕ) → i < length gates
      → literal_value env (output_literal (line_at h (ended text) (outputs_from h + i))) ≡ not (truth net (get_or gates i 0) bits)
  value_by bits env v i l =
      ap (λ (x : AagLine). literal_value env (output_literal x)) (laid_out.outputs i (omega (arith, l, hd.outputs)))
      ∙ ((neg.all i l).negated env ∙ ap not (gate_by bits env v (get_or gates i 0) (cases_lt (get_or gates i 0) (length literals))))

  pub written_is : IsAagOf net gates numbers text h
  written_is = record {
    form = record { header = header_line h outs ands numbers words text is; fine = header_fine; lines = λ j from. each_fine j from (cases_lt j (rest_from h)) };
    small = omega (arith, hd.most, graph.few);
    inputs = hd.inputs;
    outputs = hd.outputs;
    in_order = laid_out.inputs;
    values = λ i l bits. record { is = λ env v. value_by bits env v i l };
    input_names = input_name h outs ands numbers words text is;
    output_names = λ i l. output_name h outs ands numbers words text is i (omega (arith, l, hd.outputs));
    last = line_count h outs ands numbers words text is ∙ ap (λ (n : ℕ). rest_from h + h.inputs + n) hd.outputs;
  }

-- the same for rules, as the writer has them
pub written_out : (net : Gates) (rules : List Rule) (h : Header) (literals outs slice : List ℕ) (ands : List code.And) (start text : List ℕ) (vars : ℕ) → IsGraphOf net.vars net.gates literals ands
    → AreNegated (length rules) (gates_of rules) literals outs → slice ≡ outs → vars ≡ net.vars → start ≡ []
    → IsHeaderOf h vars (length rules) (length ands) × (text ≡ start ++ with_line_feeds (written_lines h slice ands (numbers_of rules))) → IsAagOf net (gates_of rules) (numbers_of rules) text h
written_out net rules h literals outs slice ands start text vars graph neg same_outs same_vars none (hd, is) =
    let size : length rules ≡ length (gates_of rules) = sym (length-map rules gate_of) in
    written_is net (gates_of rules) (numbers_of rules) h literals outs ands text graph
    (subst (λ (n : ℕ). AreNegated n (gates_of rules) literals outs) size neg)
    (subst (λ (n : ℕ). IsHeaderOf h net.vars n (length ands)) size (subst (λ (v : ℕ). IsHeaderOf h v (length rules) (length ands)) same_vars hd))
    (is ∙ (ap (λ (t : List ℕ). t ++ with_line_feeds (written_lines h slice ands (numbers_of rules))) none ∙ ap (λ (xs : List ℕ). with_line_feeds (written_lines h xs ands (numbers_of rules))) same_outs))

-- ---- the lines as they are put

fed_in_order : (t0 t1 t2 t3 t4 t5 t6 : List ℕ) (head : List ℕ) (a b c d e : List (List ℕ)) → t1 ≡ t0 ++ with_line_feeds (head ∷ []) → t2 ≡ t1 ++ with_line_feeds a → t3 ≡ t2 ++ with_line_feeds b
    → t4 ≡ t3 ++ with_line_feeds c → t5 ≡ t4 ++ with_line_feeds d → t6 ≡ t5 ++ with_line_feeds e → t6 ≡ t0 ++ with_line_feeds (head ∷ (a ++ (b ++ (c ++ (d ++ e)))))
fed_in_order t0 t1 t2 t3 t4 t5 t6 head a b c d e e1 e2 e3 e4 e5 e6 =
    e6 ∙ joined t4 t5 d e (with_line_feeds e) e5 refl ∙ joined t3 t4 c (d ++ e) (with_line_feeds (d ++ e)) e4 refl
    ∙ joined t2 t3 b (c ++ (d ++ e)) (with_line_feeds (c ++ (d ++ e))) e3 refl ∙ joined t1 t2 a (b ++ (c ++ (d ++ e))) (with_line_feeds (b ++ (c ++ (d ++ e)))) e2 refl
    ∙ joined t0 t1 (head ∷ []) (a ++ (b ++ (c ++ (d ++ e)))) (with_line_feeds (a ++ (b ++ (c ++ (d ++ e))))) e1 refl
  where
    joined : (x y : List ℕ) (p q : List (List ℕ)) (z : List ℕ) → y ≡ x ++ with_line_feeds p → z ≡ with_line_feeds q → y ++ z ≡ x ++ with_line_feeds (p ++ q)
    joined x y p q z f g =
        ap (λ (t : List ℕ). t ++ z) f ∙ (append_assoc x (with_line_feeds p) z ∙ ap (λ (t : List ℕ). x ++ t) (ap (λ (t : List ℕ). with_line_feeds p ++ t) g ∙ sym (fed_append p q)))

pub all_put : (h : Header) (inputs n : ℕ) (outs : List ℕ) (ands : List code.And) (numbers : List ℕ) (t0 t1 t2 t3 t4 t5 t6 : List ℕ) → IsHeaderOf h inputs n (length ands) → length outs ≡ n
    → t1 ≡ t0 ++ with_line_feeds (header_text h ∷ []) → t2 ≡ t1 ++ with_line_feeds (each (λ k. decimal (2 * (k + 1))) inputs)
    → t3 ≡ t2 ++ with_line_feeds (each (λ k. decimal (get_or outs k 0)) (length outs)) → t4 ≡ t3 ++ with_line_feeds (each (λ k. and_text (and_line_of inputs ands k)) (length ands))
    → t5 ≡ t4 ++ with_line_feeds (each input_symbol inputs) → t6 ≡ t5 ++ with_line_feeds (each (output_symbol_of numbers) n)
    → t6 ≡ t0 ++ with_line_feeds (written_lines h outs ands numbers)
all_put h inputs n outs ands numbers t0 t1 t2 t3 t4 t5 t6 hd size e1 e2 e3 e4 e5 e6 =
    fed_in_order t0 t1 t2 t3 t4 t5 t6 (header_text h) (each (λ k. decimal (2 * (k + 1))) h.inputs) (each (λ k. decimal (get_or outs k 0)) h.outputs)
    (each (λ k. and_text (and_line_of h.inputs ands k)) h.ands) (each input_symbol h.inputs) (each (output_symbol_of numbers) h.outputs) e1
    (e2 ∙ ap (λ (i : ℕ). t1 ++ with_line_feeds (each (λ k. decimal (2 * (k + 1))) i)) (sym hd.inputs))
    (e3 ∙ ap (λ (i : ℕ). t2 ++ with_line_feeds (each (λ k. decimal (get_or outs k 0)) i)) (size ∙ sym hd.outputs))
    (e4 ∙ (ap (λ (i : ℕ). t3 ++ with_line_feeds (each (λ k. and_text (and_line_of i ands k)) (length ands))) (sym hd.inputs) ∙ ap (λ (i : ℕ). t3 ++ with_line_feeds (each (λ k. and_text (and_line_of h.inputs ands k)) i)) (sym hd.ands)))
    (e5 ∙ ap (λ (i : ℕ). t4 ++ with_line_feeds (each input_symbol i)) (sym hd.inputs))
    (e6 ∙ ap (λ (i : ℕ). t5 ++ with_line_feeds (each (output_symbol_of numbers) i)) (sym hd.outputs))

-- ---- rules

pub gate_there : (rules : List Rule) (k : ℕ) (rule : Rule) → slice_get rules k ≡ Some rule → get_or (gates_of rules) k 0 ≡ rule.gate
gate_there rules k rule e = get_or_from_slice_get (gates_of rules) k rule.gate 0 (slice_get-map gate_of rules k ∙ ap (option_map gate_of) e)

pub gate_none : (rules : List Rule) (k : ℕ) → slice_get rules k ≡ None → get_or (gates_of rules) k 0 ≡ 0
gate_none rules k e = sym (unwrap_or-slice_get (gates_of rules) k 0) ∙ ap (λ (o : Option ℕ). unwrap_or o 0) (slice_get-map gate_of rules k ∙ ap (option_map gate_of) e)

pub number_there : (rules : List Rule) (k : ℕ) (rule : Rule) → slice_get rules k ≡ Some rule → get_or (numbers_of rules) k 0 ≡ rule.number
number_there rules k rule e = get_or_from_slice_get (numbers_of rules) k rule.number 0 (slice_get-map number_of rules k ∙ ap (option_map number_of) e)

pub number_none : (rules : List Rule) (k : ℕ) → slice_get rules k ≡ None → get_or (numbers_of rules) k 0 ≡ 0
number_none rules k e = sym (unwrap_or-slice_get (numbers_of rules) k 0) ∙ ap (λ (o : Option ℕ). unwrap_or o 0) (slice_get-map number_of rules k ∙ ap (option_map number_of) e)

pub negated_none : (gates literals : List ℕ) → AreNegated 0 gates literals []
negated_none gates literals = record { size = refl; all = λ k l. absurd (omega (arith, l)) }

pub negated_more : (gates literals outs : List ℕ) (i x : ℕ) → AreNegated i gates literals outs → IsNegated literals (get_or gates i 0) x → AreNegated (i + 1) gates literals (outs ++ x ∷ [])
negated_more gates literals outs i x a is = record {
  size = omega (arith, length_push outs x, a.size);
  all = λ k l. by k l (cases_lt k i);
}
  where
    by : (k : ℕ) → k < i + 1 → (k < i) ⊎ (i ≤ k) → IsNegated literals (get_or gates k 0) (get_or (outs ++ x ∷ []) k 0)
    by k l (inl low) = subst (IsNegated literals (get_or gates k 0)) (sym (get_or_append_left outs (x ∷ []) 0 k (omega (arith, low, a.size)))) (a.all k low)
    by k l (inr le) =
        let e : i ≡ k = omega (arith, l, le) in
        subst (IsNegated literals (get_or gates k 0)) (sym (get_or_push outs x 0 k (a.size ∙ e))) (subst (λ (m : ℕ). IsNegated literals (get_or gates m 0) x) e is)
