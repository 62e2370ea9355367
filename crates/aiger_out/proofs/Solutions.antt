-- The equations of lines without a fault have one solution: the values line after line.
use Rattle.std.proofs.Common.{◌≡◌, ◌⊎◌, inl, inr, ℕ, zero, suc, ◌+◌, ◌-◌, ◌/◌, ◌%◌, ◌<◌, ◌≤◌, Bool, true, false, not, ◌&&◌, ◌||◌, ◌==◌, if◌then◌else◌, List, None, refl, sym, ap, ◌∙◌, subst, arith, add-one}
use Rattle.std.proofs.lemmas.Bool.{cases_lt, or_left, or_right, and_parts}
use borrow.Author.Tests.{eqb-true}
use Rattle.aiger_out.specs.declared.form.Header.{Header}
use Rattle.aiger_out.specs.declared.form.AagLine.{AagLine}
use Rattle.aiger_out.specs.declared.form.AagLine.TheVariants.{Input, Output, And, Other}
use Rattle.aiger_out.specs.Form.{defines, is_defined, may_be_defined, line_fault}
use Rattle.aiger_out.specs.Rows.{IsFine}
use Rattle.aiger_out.specs.Values.{literal_value, IsMet, AreValues}
use Rattle.aiger_out.specs.Solution.{line_value, solution, with_line}
use Rattle.aiger_out.proofs.Faults.{own, never_zero, defines_new, fine_input, fine_and}
use Rattle.aiger_out.proofs.Firsts.{defined_next}

pub two_truths : (b : Bool) → (b ≡ true) ⊎ (b ≡ false)
two_truths true = inl refl
two_truths false = inr refl

pub solution_next : (h : Header) (at : ℕ → AagLine) (bits : List Bool) (j v : ℕ) → solution h at bits (j + 1) v ≡ with_line h bits (solution h at bits j) j (at j) v
unfolding solution
solution_next h at bits j v = rw add-one refl

-- the values if a line defines a variable, and if it doesn't
defined_value : (h : Header) (at : ℕ → AagLine) (bits : List Bool) (j v : ℕ) → defines h (at j) v ≡ true → solution h at bits (j + 1) v ≡ line_value bits (solution h at bits j) j (at j)
defined_value h at bits j v d = solution_next h at bits j v ∙ ap (λ (b : Bool). if b then line_value bits (solution h at bits j) j (at j) else solution h at bits j v) d

kept_value : (h : Header) (at : ℕ → AagLine) (bits : List Bool) (j v : ℕ) → defines h (at j) v ≡ false → solution h at bits (j + 1) v ≡ solution h at bits j v
kept_value h at bits j v d = solution_next h at bits j v ∙ ap (λ (b : Bool). if b then line_value bits (solution h at bits j) j (at j) else solution h at bits j v) d

pub defined_later : (h : Header) (at : ℕ → AagLine) (i d v : ℕ) → is_defined h at i v ≡ true → is_defined h at (i + d) v ≡ true
defined_later h at i zero v e = ap (λ (n : ℕ). is_defined h at n v) (omega arith) ∙ e
defined_later h at i (suc d) v e =
    let s : i + suc d ≡ (i + d) + 1 = omega arith in
    ap (λ (n : ℕ). is_defined h at n v) s ∙ (defined_next h at (i + d) v ∙ or_left (is_defined h at (i + d) v) (defines h (at (i + d)) v) (defined_later h at i d v e))

-- a variable that is defined keeps its value
stays_more : (h : Header) (at : ℕ → AagLine) (bits : List Bool) (k v : ℕ) → line_fault h at k (at k) ≡ None → is_defined h at k v ≡ true
    → (defines h (at k) v ≡ true) ⊎ (defines h (at k) v ≡ false) → solution h at bits (k + 1) v ≡ solution h at bits k v
stays_more h at bits k v fine old (inl new) = let fresh : is_defined h at k v ≡ false = defines_new h at k (at k) v fine new in absurd (cc)
stays_more h at bits k v fine old (inr none) = kept_value h at bits k v none

stays : (h : Header) (at : ℕ → AagLine) (bits : List Bool) (n i d v : ℕ) → IsFine h at n → 1 ≤ i → i + d ≤ n → is_defined h at i v ≡ true
    → solution h at bits (i + d) v ≡ solution h at bits i v
stays h at bits n i zero v fine from to e = ap (λ (k : ℕ). solution h at bits k v) (omega arith)
stays h at bits n i (suc d) v fine from to e =
    let s : i + suc d ≡ (i + d) + 1 = omega arith in
    ap (λ (k : ℕ). solution h at bits k v) s
    ∙ (stays_more h at bits (i + d) v (fine (i + d) (omega (arith, from)) (omega (arith, to))) (defined_later h at i d v e) (two_truths (defines h (at (i + d)) v))
    ∙ stays h at bits n i d v fine from (omega (arith, to)) e)

stays_to : (h : Header) (at : ℕ → AagLine) (bits : List Bool) (n i v : ℕ) → IsFine h at n → 1 ≤ i → i ≤ n → is_defined h at i v ≡ true
    → solution h at bits n v ≡ solution h at bits i v
stays_to h at bits n i v fine from to e =
    let s : n ≡ i + (n - i) = omega (arith, to) in
    ap (λ (k : ℕ). solution h at bits k v) s ∙ stays h at bits n i (n - i) v fine from (omega (arith, to)) e

pub same_literal : (env other : ℕ → Bool) (x : ℕ) → env (x / 2) ≡ other (x / 2) → literal_value env x ≡ literal_value other x
same_literal env other x e = ap (λ (b : Bool). if x % 2 == 1 then not b else b) e

constant_more : (h : Header) (line : AagLine) (a b : Bool) → (defines h line 0 ≡ true) ⊎ (defines h line 0 ≡ false) → b ≡ false → (if defines h line 0 then a else b) ≡ false
constant_more h line a b (inl new) e = absurd (never_zero h line new)
constant_more h line a b (inr none) e = ap (λ (t : Bool). if t then a else b) none ∙ e

constant_false : (h : Header) (at : ℕ → AagLine) (bits : List Bool) (n : ℕ) → solution h at bits n 0 ≡ false
unfolding solution
constant_false h at bits zero = refl
constant_false h at bits (suc n) =
    constant_more h (at n) (line_value bits (solution h at bits n) n (at n)) (solution h at bits n 0) (two_truths (defines h (at n) 0)) (constant_false h at bits n)

module _ (h : Header) (at : ℕ → AagLine) (bits : List Bool) (n : ℕ) (fine : IsFine h at n) (header : at 0 ≡ Other) where
  -- the line at the header's place is Other
  from_one : (j : ℕ) (line : AagLine) → at j ≡ line → (line ≡ Other → ⊥) → 1 ≤ j
  from_one zero line e other = absurd (other (sym e ∙ header))
  from_one (suc j) line e other = omega arith

  here : (j : ℕ) (line : AagLine) (v : ℕ) → at j ≡ line → 1 ≤ j → j < n → defines h line v ≡ true → solution h at bits n v ≡ line_value bits (solution h at bits j) j line
  here j line v e from to d =
      let there : defines h (at j) v ≡ true = ap (λ (l : AagLine). defines h l v) e ∙ d in
      stays_to h at bits n (j + 1) v fine (omega arith) (omega (arith, to))
      (defined_next h at j v ∙ or_right (is_defined h at j v) (defines h (at j) v) there)
      ∙ (defined_value h at bits j v there ∙ ap (line_value bits (solution h at bits j) j) e)

  met_by : (j : ℕ) (line : AagLine) → at j ≡ line → j < n → IsMet bits (solution h at bits n) j line
  met_by j (Input x) e to =
      let from : 1 ≤ j = from_one j (Input x) e (λ o. cc) in
      let f = fine_input h at j x (sym (ap (line_fault h at j) e) ∙ fine j from to) in
      here j (Input x) (x / 2) e from to (own (may_be_defined h x) (x / 2) f.fresh)
  met_by j (And a) e to =
      let from : 1 ≤ j = from_one j (And a) e (λ o. cc) in
      let f = fine_and h at j a (sym (ap (line_fault h at j) e) ∙ fine j from to) in
      let first : literal_value (solution h at bits j) a.rhs0 ≡ literal_value (solution h at bits n) a.rhs0 =
      same_literal (solution h at bits j) (solution h at bits n) a.rhs0 (sym (stays_to h at bits n j (a.rhs0 / 2) fine from (omega (arith, to)) f.first)) in
      let second : literal_value (solution h at bits j) a.rhs1 ≡ literal_value (solution h at bits n) a.rhs1 =
      same_literal (solution h at bits j) (solution h at bits n) a.rhs1 (sym (stays_to h at bits n j (a.rhs1 / 2) fine from (omega (arith, to)) f.second)) in
      here j (And a) (a.lhs / 2) e from to (own (may_be_defined h a.lhs) (a.lhs / 2) f.fresh)
      ∙ (ap (λ (b : Bool). b && literal_value (solution h at bits j) a.rhs1) first ∙ ap (λ (b : Bool). literal_value (solution h at bits n) a.rhs0 && b) second)
  met_by j (Output x) e to = tt
  met_by j Other e to = tt

  met_behind : (j : ℕ) (line : AagLine) → line ≡ Other → IsMet bits (solution h at bits n) j line
  met_behind j line e = subst (IsMet bits (solution h at bits n) j) (sym e) tt

  pub solved : ((j : ℕ) → n ≤ j → at j ≡ Other) → AreValues at bits (solution h at bits n)
  solved behind = record {
    constant = constant_false h at bits n;
    met = λ j. by j (cases_lt j n);
  }
    where
      by : (j : ℕ) → (j < n) ⊎ (n ≤ j) → IsMet bits (solution h at bits n) j (at j)
      by j (inl low) = met_by j (at j) refl low
      by j (inr high) = met_behind j (at j) (behind j high)

  -- every solution has these values, line after line
  of_line : (env : ℕ → Bool) (j : ℕ) (line : AagLine) (v : ℕ) → at j ≡ line → j < n → IsMet bits env j line → defines h line v ≡ true
      → ((u : ℕ) → is_defined h at j u ≡ true → env u ≡ solution h at bits j u) → env v ≡ line_value bits (solution h at bits j) j line
  of_line env j (Input x) v e to met d so_far = sym (ap env (eqb-true (x / 2) v (and_parts (may_be_defined h x) (x / 2 == v) d).1)) ∙ met
  of_line env j (And a) v e to met d so_far =
      let from : 1 ≤ j = from_one j (And a) e (λ o. cc) in
      let f = fine_and h at j a (sym (ap (line_fault h at j) e) ∙ fine j from to) in
      sym (ap env (eqb-true (a.lhs / 2) v (and_parts (may_be_defined h a.lhs) (a.lhs / 2 == v) d).1)) ∙ (met
      ∙ (ap (λ (b : Bool). b && literal_value env a.rhs1) (same_literal env (solution h at bits j) a.rhs0 (so_far (a.rhs0 / 2) f.first))
      ∙ ap (λ (b : Bool). literal_value (solution h at bits j) a.rhs0 && b) (same_literal env (solution h at bits j) a.rhs1 (so_far (a.rhs1 / 2) f.second))))
  of_line env j (Output x) v e to met d so_far = absurd (cc)
  of_line env j Other v e to met d so_far = absurd (cc)

  left_true : (a b : Bool) → (a || b) ≡ true → b ≡ false → a ≡ true
  left_true true b e f = refl
  left_true false b e f = absurd (cc)

  zero_only : (v : ℕ) → is_defined h at 0 v ≡ true → v ≡ 0
  unfolding is_defined
  zero_only v e = eqb-true v 0 e

  agrees_more : (env : ℕ → Bool) → AreValues at bits env → (j v : ℕ) → j < n → is_defined h at (j + 1) v ≡ true
      → ((u : ℕ) → is_defined h at j u ≡ true → env u ≡ solution h at bits j u)
      → (defines h (at j) v ≡ true) ⊎ (defines h (at j) v ≡ false) → env v ≡ solution h at bits (j + 1) v
  agrees_more env a j v to d so_far (inl new) = of_line env j (at j) v refl to (a.met j) new so_far ∙ sym (defined_value h at bits j v new)
  agrees_more env a j v to d so_far (inr none) =
      so_far v (left_true (is_defined h at j v) (defines h (at j) v) (sym (defined_next h at j v) ∙ d) none) ∙ sym (kept_value h at bits j v none)

  pub agrees : (env : ℕ → Bool) → AreValues at bits env → (j v : ℕ) → j ≤ n → is_defined h at j v ≡ true → env v ≡ solution h at bits j v
  agrees env a zero v to d = ap env (zero_only v d) ∙ (a.constant ∙ (sym (constant_false h at bits 0) ∙ ap (solution h at bits 0) (sym (zero_only v d))))
  agrees env a (suc j) v to d =
      let s : j + 1 ≡ suc j = omega arith in
      agrees_more env a j v (omega (arith, to)) (ap (λ (k : ℕ). is_defined h at k v) s ∙ d) (λ u k. agrees env a j u (omega (arith, to)) k) (two_truths (defines h (at j) v))
      ∙ ap (λ (k : ℕ). solution h at bits k v) s
