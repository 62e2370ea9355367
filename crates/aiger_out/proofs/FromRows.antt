-- From the lines that were read to the text.
use mathlib.Core.Path.{fun_ext}
use Rattle.std.proofs.Common.{◌≡◌, ◌⊎◌, inl, inr, ℕ, zero, suc, ◌+◌, ◌-◌, ◌/◌, ◌<◌, ◌≤◌, Bool, true, false, ◌&&◌, ◌||◌, ◌==◌, nat_lt, if◌then◌else◌, List, [], ◌∷◌, length, slice_get, Option, Some, None, option_and_then, refl, sym, ap, ◌∙◌, subst, arith, length-drop}
use Rattle.std.specs.Option.{option_map_or}
use Rattle.std.proofs.lemmas.Bool.{cases_lt}
use Rattle.std.proofs.lemmas.Bool.Decides.{nat_tests}
use Rattle.std.proofs.lemmas.Option.{slice_get_past}
use Rattle.std.proofs.lemmas.List.{get_or_past}
use Rattle.nets.specs.Nets.{Gates}
use Rattle.aiger_out.specs.declared.fault.AagError.{AagError}
use Rattle.aiger_out.specs.declared.fault.AagError.TheVariants.{Fault, Memory}
use Rattle.aiger_out.specs.declared.fault.AagFault.{AagFault}
use Rattle.aiger_out.specs.declared.fault.AagWhy.{AagWhy}
use Rattle.aiger_out.specs.declared.fault.AagWhy.TheVariants.{Syntax}
use Rattle.aiger_out.specs.declared.form.AndLine.{AndLine}
use Rattle.aiger_out.specs.declared.form.Header.{Header}
use Rattle.aiger_out.specs.declared.form.AagLine.{AagLine}
use Rattle.aiger_out.specs.declared.form.AagLine.TheVariants.{Input, Output, And, Other}
use Rattle.aiger_out.specs.Lines.{ended, header_of, one_number, three_numbers}
use Rattle.aiger_out.specs.Form.{IsFault, IsFaultBehind, and_line, ands_from, comment_within, fault_at, has_more, header_fault, is_comment, is_defined, line_at, line_fault, line_read, output_line, outputs_from, rest_from, tail_fault, text_fault, text_header}
use Rattle.aiger_out.specs.Reading.{AreGoodLines, IsError, IsLineError, IsTailError}
use Rattle.aiger_out.specs.Rows.{AreRows, IsFine, IsFirstFault, row}
use Rattle.aiger_out.specs.Solution.{InputsFollow, solution}
use Rattle.aiger_out.specs.Tail.{tail_fault_at}
use Rattle.aiger_out.specs.Values.{AreValues, IsNetOfText, literal_value, output_literal}
use Rattle.aiger_out.proofs.Faults.{fine_output}
use Rattle.aiger_out.proofs.RowSteps.{slice_get_drop}
use Rattle.aiger_out.proofs.Solutions.{agrees, defined_later, same_literal}

-- ---- the places of lines

read_behind : (h : Header) (j : ℕ) (line : List ℕ) → rest_from h ≤ j → line_read h j line ≡ Other
read_behind h j line past =
    let a : (j == 0) ≡ false = grind (arith, nat_tests) in
    let b : nat_lt j (outputs_from h) ≡ false = grind (arith, nat_tests) in
    let c : nat_lt j (ands_from h) ≡ false = grind (arith, nat_tests) in
    let d : nat_lt j (rest_from h) ≡ false = grind (arith, nat_tests) in
    rw (a, b, c, d) refl

each_other : (h : Header) (j : ℕ) (x : Option (List ℕ)) → ((line : List ℕ) → line_read h j line ≡ Other) → option_map_or (line_read h j) x Other ≡ Other
each_other h j None e = refl
each_other h j (Some line) e = e line

pub line_behind : (h : Header) (lines : List (List ℕ)) (j : ℕ) → rest_from h ≤ j → line_at h lines j ≡ Other
unfolding line_at
line_behind h lines j past = each_other h j (slice_get lines j) (λ line. read_behind h j line past)

pub line_first : (h : Header) (lines : List (List ℕ)) → line_at h lines 0 ≡ Other
unfolding line_at
line_first h lines = each_other h 0 (slice_get lines 0) (λ line. refl)

line_missing : (h : Header) (lines : List (List ℕ)) (j : ℕ) → length lines ≤ j → line_at h lines j ≡ Other
unfolding line_at
line_missing h lines j past = ap (λ (x : Option (List ℕ)). option_map_or (line_read h j) x Other) (slice_get_past lines j past)

is_input : AagLine → Bool
is_input (Input x) = true
is_input (Output x) = false
is_input (And a) = false
is_input Other = false

no_output : (x : Option ℕ) → is_input (output_line x) ≡ false
unfolding is_input
no_output None = refl
no_output (Some x) = refl

no_and : (x : Option AndLine) → is_input (and_line x) ≡ false
unfolding is_input
no_and None = refl
no_and (Some x) = refl

either : (b : Bool) (x y : AagLine) → is_input x ≡ false → is_input y ≡ false → is_input (if b then x else y) ≡ false
either true x y e f = e
either false x y e f = f

no_input : (h : Header) (j : ℕ) (line : List ℕ) → outputs_from h ≤ j → is_input (line_read h j line) ≡ false
unfolding is_input
no_input h j line past =
    let a : (j == 0) ≡ false = grind (arith, nat_tests) in
    let b : nat_lt j (outputs_from h) ≡ false = grind (arith, nat_tests) in
    rw (a, b) (either (nat_lt j (ands_from h)) (output_line (one_number line)) _ (no_output (one_number line))
    (either (nat_lt j (rest_from h)) (and_line (three_numbers line)) Other (no_and (three_numbers line)) refl))

no_input_at : (h : Header) (j : ℕ) (x : Option (List ℕ)) → outputs_from h ≤ j → is_input (option_map_or (line_read h j) x Other) ≡ false
unfolding is_input
no_input_at h j None past = refl
no_input_at h j (Some line) past = no_input h j line past

input_there : (h : Header) (lines : List (List ℕ)) (j x : ℕ) → line_at h lines j ≡ Input x → outputs_from h ≤ j → ⊥
unfolding line_at is_input
input_there h lines j x e past = let f : is_input (line_at h lines j) ≡ true = ap is_input e in let g = no_input_at h j (slice_get lines j) past in cc

input_first : (h : Header) (lines : List (List ℕ)) (j x : ℕ) → line_at h lines j ≡ Input x → j ≡ 0 → ⊥
input_first h lines j x e z = let f : line_at h lines j ≡ Other = ap (line_at h lines) z ∙ line_first h lines in cc

line_input : (h : Header) (lines : List (List ℕ)) (j x : ℕ) → line_at h lines j ≡ Input x → (1 ≤ j) × (j ≤ h.inputs)
line_input h lines j x e = (low (cases_lt 0 j), high (cases_lt j (outputs_from h)))
  where
    low : (0 < j) ⊎ (j ≤ 0) → 1 ≤ j
    low (inl l) = omega (arith, l)
    low (inr l) = absurd (input_first h lines j x e (omega (arith, l)))

    high : (j < outputs_from h) ⊎ (outputs_from h ≤ j) → j ≤ h.inputs
    high (inl l) = omega (arith, l)
    high (inr l) = absurd (input_there h lines j x e l)

-- ---- the values of outputs

zero_defined : (h : Header) (at : ℕ → AagLine) (n : ℕ) → is_defined h at n 0 ≡ true
unfolding is_defined
zero_defined h at n = let e : n ≡ 0 + n = omega arith in ap (λ (k : ℕ). is_defined h at k 0) e ∙ defined_later h at 0 n 0 refl

module _ (h : Header) (at : ℕ → AagLine) (bits : List Bool) (fine : IsFine h at (rest_from h)) (header : at 0 ≡ Other) where
  agree_at : (env : ℕ → Bool) → AreValues at bits env → (x : ℕ) → is_defined h at (rest_from h) (x / 2) ≡ true
      → literal_value env x ≡ literal_value (solution h at bits (rest_from h)) x
  agree_at env v x d = same_literal env (solution h at bits (rest_from h)) x (agrees h at bits (rest_from h) fine header env v (rest_from h) (x / 2) (omega arith) d)

  pub out_value : (env : ℕ → Bool) → AreValues at bits env → (j : ℕ) (line : AagLine) → at j ≡ line → 1 ≤ j → j < rest_from h
      → literal_value env (output_literal line) ≡ literal_value (solution h at bits (rest_from h)) (output_literal line)
  out_value env v j (Output x) e from low = agree_at env v x (fine_output h at j x (sym (ap (line_fault h at j) e) ∙ fine j from low)).defined
  out_value env v j (Input x) e from low = agree_at env v 0 (zero_defined h at (rest_from h))
  out_value env v j (And a) e from low = agree_at env v 0 (zero_defined h at (rest_from h))
  out_value env v j Other e from low = agree_at env v 0 (zero_defined h at (rest_from h))

-- ---- the rows are the lines at all places

module _ (h : Header) (text : List ℕ) (rows : List AagLine) (left : List ℕ) (a : AreRows h text (rest_from h) rows left) where
  each_row : (j : ℕ) → row rows j ≡ line_at h (ended text) j
  each_row j = by (cases_lt j (rest_from h))
    where
      by : (j < rest_from h) ⊎ (rest_from h ≤ j) → row rows j ≡ line_at h (ended text) j
      by (inl low) = a.lines j low
      by (inr past) = get_or_past rows j Other (omega (arith, a.size, past)) ∙ sym (line_behind h (ended text) j past)

  are_rows : row rows ≡ line_at h (ended text)
  are_rows = fun_ext each_row

  pub rows_header : row rows 0 ≡ Other
  rows_header = each_row 0 ∙ line_first h (ended text)

  pub rows_follow : InputsFollow h (row rows)
  rows_follow j x e = line_input h (ended text) j x (sym (each_row j) ∙ e)

  fine_there : (n : ℕ) → IsFine h (row rows) n → IsFine h (line_at h (ended text)) n
  fine_there n fine = subst (λ (at : ℕ → AagLine). IsFine h at n) are_rows fine

  -- ---- faults

  enough : IsFine h (line_at h (ended text)) (rest_from h) → 1 ≤ length (ended text) → rest_from h ≤ length (ended text)
  enough fine some = by (cases_lt (length (ended text)) (rest_from h))
    where
      n : ℕ
      n = length (ended text)

      by : (length (ended text) < rest_from h) ⊎ (rest_from h ≤ length (ended text)) → rest_from h ≤ length (ended text)
      by (inl low) =
          let f : line_fault h (line_at h (ended text)) (length (ended text)) Other ≡ None =
          sym (ap (line_fault h (line_at h (ended text)) (length (ended text))) (line_missing h (ended text) (length (ended text)) (omega arith))) ∙ fine (length (ended text)) some low in
          absurd (cc)
      by (inr past) = past

  before_rest : (j : ℕ) → j < rest_from h → text_fault text h j ≡ line_fault h (line_at h (ended text)) j (line_at h (ended text) j)
  unfolding fault_at
  before_rest j low = let e : nat_lt j (rest_from h) ≡ true = grind (arith, nat_tests) in rw e refl

  comment_same : (k : ℕ) → comment_within (ended left) 0 k ≡ comment_within (ended text) (rest_from h) k
  unfolding comment_within
  comment_same zero = refl
  comment_same (suc k) =
      let e : rest_from h + (0 + k) ≡ rest_from h + k = omega arith in
      ap (λ (b : Bool). b || option_map_or is_comment (slice_get (ended left) (0 + k)) false) (comment_same k)
      ∙ ap (λ (x : Option (List ℕ)). comment_within (ended text) (rest_from h) k || option_map_or is_comment x false)
      (ap (λ (xs : List (List ℕ)). slice_get xs (0 + k)) a.rest ∙ (slice_get_drop (rest_from h) (ended text) (0 + k) ∙ ap (slice_get (ended text)) e))

  same_test : (m k n : ℕ) → m + k ≡ n → (k == m) ≡ (m == k)
  same_test m k n e = grind (arith, nat_tests)

  end_same : rest_from h ≤ length (ended text) → (k : ℕ) → (k == length (ended left)) ≡ (rest_from h + k == length (ended text))
  end_same le k =
      let n : length (ended left) + rest_from h ≡ length (ended text) = omega (arith, ap length a.rest, length-drop (rest_from h) (ended text), le) in
      shifted k (length (ended left)) (rest_from h) (length (ended text)) n
    where
      shifted : (x y from n : ℕ) → y + from ≡ n → (x == y) ≡ (from + x == n)
      shifted x y from n e = grind (arith, nat_tests)

  tail_same : rest_from h ≤ length (ended text) → (k : ℕ) → text_fault text h (rest_from h + k) ≡ tail_fault_at h (ended left) (has_more left) k
  unfolding fault_at
  tail_same le k =
      let e : nat_lt (rest_from h + k) (rest_from h) ≡ false = grind (arith, nat_tests) in
      let m : (rest_from h + k) - rest_from h ≡ k = omega arith in
      let more : has_more left ≡ has_more text = ap (λ (xs : List ℕ). nat_lt 0 (length xs)) a.more in
      let there : slice_get (ended text) (rest_from h + k) ≡ slice_get (ended left) k = sym (slice_get_drop (rest_from h) (ended text) k) ∙ ap (λ (xs : List (List ℕ)). slice_get xs k) (sym a.rest) in
      ap (λ (b : Bool). if b then line_fault h (line_at h (ended text)) (rest_from h + k) (line_at h (ended text) (rest_from h + k))
      else (if comment_within (ended text) (rest_from h) ((rest_from h + k) - rest_from h) then None
      else tail_fault h (slice_get (ended text) (rest_from h + k)) (rest_from h + k == length (ended text) && has_more text))) e
      ∙ (ap (λ (n : ℕ). if comment_within (ended text) (rest_from h) n then None
      else tail_fault h (slice_get (ended text) (rest_from h + k)) (rest_from h + k == length (ended text) && has_more text)) m
      ∙ (ap (λ (b : Bool). if b then None
      else tail_fault h (slice_get (ended text) (rest_from h + k)) (rest_from h + k == length (ended text) && has_more text)) (sym (comment_same k))
      ∙ (ap (λ (x : Option (List ℕ)). if comment_within (ended left) 0 k then None else tail_fault h x (rest_from h + k == length (ended text) && has_more text)) there
      ∙ (ap (λ (b : Bool). if comment_within (ended left) 0 k then None else tail_fault h (slice_get (ended left) k) (b && has_more text)) (sym (end_same le k))
      ∙ ap (λ (b : Bool). if comment_within (ended left) 0 k then None else tail_fault h (slice_get (ended left) k) (k == length (ended left) && b)) (sym more)))))

  fine_before : (n : ℕ) → n ≤ rest_from h → IsFine h (line_at h (ended text)) n → (j : ℕ) → 1 ≤ j → j < n → text_fault text h j ≡ None
  fine_before n to fine j from low = before_rest j (omega (arith, low, to)) ∙ fine j from low

  module _ (first : List ℕ) (more : List (List ℕ)) (whole : ended text ≡ first ∷ more) (is : header_of first ≡ Some h) (good : header_fault 1000000 h ≡ None) where
    some_line : 1 ≤ length (ended text)
    some_line = omega (arith, ap length whole)

    header_there : text_header text ≡ Some h
    header_there = ap (λ (xs : List (List ℕ)). option_and_then header_of (slice_get xs 0)) whole ∙ is

    -- the text has the form, and the outputs their values
    pub read_ok : (net : Gates) (outs : List ℕ) → AreGoodLines h (row rows) left net outs → IsNetOfText 1000000 text net outs h
    read_ok net outs g = record {
      form = record { header = header_there; fine = good; lines = λ j from. by j from (cases_lt j (rest_from h)) };
      inputs = g.built.vars;
      outputs = g.built.outputs.size;
      within = λ i l. (g.built.outputs.gates i (omega (arith, l, g.built.outputs.size))).within;
      truths = λ i l bits. record {
        is = λ env v.
            out_value h (line_at h (ended text)) bits fine (line_first h (ended text)) env v (outputs_from h + i) (line_at h (ended text) (outputs_from h + i)) refl (omega arith) (omega (arith, l))
            ∙ sym (ap (λ (at : ℕ → AagLine). literal_value (solution h at bits (rest_from h)) (output_literal (at (outputs_from h + i)))) are_rows)
            ∙ sym ((g.built.outputs.gates i l).is bits);
      };
    }
      where
        fine : IsFine h (line_at h (ended text)) (rest_from h)
        fine = fine_there (rest_from h) g.fine

        by : (j : ℕ) → 1 ≤ j → (j < rest_from h) ⊎ (rest_from h ≤ j) → text_fault text h j ≡ None
        by j from (inl low) = fine_before (rest_from h) (omega arith) fine j from low
        by j from (inr past) =
            let e : j ≡ rest_from h + (j - rest_from h) = omega (arith, past) in
            ap (text_fault text h) e ∙ (tail_same (enough fine some_line) (j - rest_from h) ∙ g.tail (j - rest_from h))

    of_line : (f : AagFault) → IsFirstFault h (row rows) f → IsFault 1000000 text f.line f.why
    of_line f l =
        subst (IsFaultBehind 1000000 text f.line f.why) (sym header_there)
        (inr (
          good,
          l.from,
          before_rest (f.line - 1) (omega (arith, l.from, l.to)) ∙ subst (λ (at : ℕ → AagLine). line_fault h at (f.line - 1) (at (f.line - 1)) ≡ Some f.why) are_rows l.has,
          fine_before (f.line - 1) (omega (arith, l.to)) (fine_there (f.line - 1) l.before),
        ))

    of_tail : (f : AagFault) → IsTailError h (row rows) left f → IsFault 1000000 text f.line f.why
    of_tail f l =
        subst (IsFaultBehind 1000000 text f.line f.why) (sym header_there)
        (inr (
          good,
          omega (arith, l.place.1),
          ap (text_fault text h) (omega (arith, l.place.1)) ∙ (tail_same le l.place.0 ∙ (l.place.2.has ∙ sym (ap Some l.why))),
          λ j from low. by j from low (cases_lt j (rest_from h)),
        ))
      where
        fine : IsFine h (line_at h (ended text)) (rest_from h)
        fine = fine_there (rest_from h) l.fine

        le : rest_from h ≤ length (ended text)
        le = enough fine some_line

        by : (j : ℕ) → 1 ≤ j → j < f.line - 1 → (j < rest_from h) ⊎ (rest_from h ≤ j) → text_fault text h j ≡ None
        by j from low (inl before) = fine_before (rest_from h) (omega arith) fine j from before
        by j from low (inr past) =
            let e : j ≡ rest_from h + (j - rest_from h) = omega (arith, past) in
            ap (text_fault text h) e ∙ (tail_same le (j - rest_from h) ∙ l.place.2.before (j - rest_from h) (omega (arith, past, low, l.place.1)))

    pub read_err : (e : AagError) → IsLineError h (row rows) left e → IsError 1000000 text e
    read_err Memory l = tt
    read_err (Fault f) (inl l) = of_line f l
    read_err (Fault f) (inr l) = of_tail f l

-- ---- faults of the header

pub no_line : (text : List ℕ) → ended text ≡ [] → IsFault 1000000 text 1 Syntax
no_line text e = subst (IsFaultBehind 1000000 text 1 Syntax) (sym (ap (λ (xs : List (List ℕ)). option_and_then header_of (slice_get xs 0)) e)) (refl, refl)

pub no_header : (text first : List ℕ) (more : List (List ℕ)) → ended text ≡ first ∷ more → header_of first ≡ None → IsFault 1000000 text 1 Syntax
no_header text first more e none =
    subst (IsFaultBehind 1000000 text 1 Syntax) (sym (ap (λ (xs : List (List ℕ)). option_and_then header_of (slice_get xs 0)) e ∙ none)) (refl, refl)

pub bad_header : (text first : List ℕ) (more : List (List ℕ)) (h : Header) (why : AagWhy) → ended text ≡ first ∷ more → header_of first ≡ Some h → header_fault 1000000 h ≡ Some why
    → IsFault 1000000 text 1 why
bad_header text first more h why e is bad =
    subst (IsFaultBehind 1000000 text 1 why) (sym (ap (λ (xs : List (List ℕ)). option_and_then header_of (slice_get xs 0)) e ∙ is)) (inl (refl, bad))
