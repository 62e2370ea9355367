-- Inputs, outputs and ANDs in the writer's order have no fault.
use Rattle.std.proofs.Common.{◌≡◌, ◌⊎◌, inl, inr, ℕ, zero, suc, ◌+◌, ◌-◌, ◌*◌, ◌/◌, ◌%◌, ◌<◌, ◌≤◌, Bool, true, false, not, ◌&&◌, ◌||◌, ◌==◌, nat_lt, nat_le, None, refl, ap, ◌∙◌, arith}
use Rattle.std.proofs.lemmas.Bool.{cases_lt, le-leb}
use Rattle.std.proofs.lemmas.Bool.Decides.{nat_tests}
use Rattle.std.proofs.Math.Bool.{or-false}
use Rattle.aiger_out.specs.declared.fault.AagWhy.{AagWhy}
use Rattle.aiger_out.specs.declared.fault.AagWhy.TheVariants.{Literal, Twice, Undefined}
use Rattle.aiger_out.specs.declared.form.Header.{Header}
use Rattle.aiger_out.specs.declared.form.AagLine.{AagLine}
use Rattle.aiger_out.specs.declared.form.AagLine.TheVariants.{Input, Output, And, Other}
use Rattle.aiger_out.specs.Form.{ands_from, defines, first_of, is_defined, may_be_defined, line_fault, outputs_from, rest_from, greatest_literal}
use Rattle.aiger_out.specs.Rows.{IsFine}
use Rattle.aiger_out.proofs.Firsts.{defined_next}

-- the lines are in the writer's order: input k is variable k + 1, and AND k is the next variable after the inputs and
-- the earlier ANDs
pub record Laid (h : Header) (at : ℕ → AagLine) (outs : ℕ → ℕ) (first second : ℕ → ℕ) : Type 0 where
  pub total : h.most ≡ h.inputs + h.ands
  pub header : at 0 ≡ Other
  pub inputs : (k : ℕ) → k < h.inputs → at (1 + k) ≡ Input (2 * (k + 1))
  pub outputs : (k : ℕ) → k < h.outputs → at (outputs_from h + k) ≡ Output (outs k)
  pub ands : (k : ℕ) → k < h.ands → at (ands_from h + k) ≡ And (record { lhs = 2 * (h.inputs + (k + 1)); rhs0 = first k; rhs1 = second k })
  pub small_outs : (k : ℕ) → k < h.outputs → outs k / 2 ≤ h.inputs + h.ands
  pub small_first : (k : ℕ) → k < h.ands → first k / 2 ≤ h.inputs + k
  pub small_second : (k : ℕ) → k < h.ands → second k / 2 ≤ h.inputs + k

fresh : (h : Header) (v : ℕ) → 1 ≤ v → v ≤ h.most → may_be_defined h (2 * v) ≡ true
fresh h v low high =
    let a : ((2 * v) % 2 == 0) ≡ true = let e : (2 * v) % 2 ≡ 0 = omega arith in grind (arith, nat_tests) in
    let b : nat_le 2 (2 * v) ≡ true = grind (arith, nat_tests) in
    let c : nat_le (2 * v) (greatest_literal h) ≡ true = grind (arith, nat_tests) in
    rw (a, b, c) refl

pub half : (v : ℕ) → 2 * v / 2 ≡ v
half v = omega arith

one_more : (v k : ℕ) → (nat_le v k || k + 1 == v) ≡ nat_le v (k + 1)
one_more v k = grind (arith, nat_tests)

-- a line with a fresh literal defines its variable
defines_one : (b : Bool) (x v : ℕ) → b ≡ true → (b && x == v) ≡ (x == v)
defines_one true x v e = refl
defines_one false x v e = absurd (cc)

not_below : (b : Bool) (why : AagWhy) → b ≡ false → first_of b why None ≡ None
not_below b why e = ap (λ (t : Bool). first_of t why None) e

above : (x k : ℕ) → k < x → nat_le x k ≡ false
above x k h = grind (arith, nat_tests)

in_range : (h : Header) (x : ℕ) → x / 2 ≤ h.most → nat_lt (greatest_literal h) x ≡ false
in_range h x l = let e : x ≤ greatest_literal h = omega (arith, l) in grind (arith, nat_tests)

module _ (h : Header) (at : ℕ → AagLine) (outs first second : ℕ → ℕ) (l : Laid h at outs first second) where
  literal : ℕ → ℕ
  literal k = 2 * (h.inputs + (k + 1))

  start : (v : ℕ) → is_defined h at 1 v ≡ nat_le v 0
  unfolding is_defined
  start v =
      ap (λ (b : Bool). (v == 0) || b) (ap (λ (x : AagLine). defines h x v) l.header) ∙ zero_test v
    where
      zero_test : (v : ℕ) → ((v == 0) || false) ≡ nat_le v 0
      zero_test v = grind (arith, nat_tests)

  by_input : (k v : ℕ) → k < h.inputs → defines h (at (1 + k)) v ≡ (k + 1 == v)
  by_input k v low =
      ap (λ (x : AagLine). defines h x v) (l.inputs k low)
      ∙ (defines_one (may_be_defined h (2 * (k + 1))) (2 * (k + 1) / 2) v (fresh h (k + 1) (omega arith) (omega (arith, low, l.total))) ∙ ap (λ (x : ℕ). x == v) (half (k + 1)))

  by_output : (k v : ℕ) → k < h.outputs → defines h (at (outputs_from h + k)) v ≡ false
  by_output k v low = ap (λ (x : AagLine). defines h x v) (l.outputs k low)

  by_and : (k v : ℕ) → k < h.ands → defines h (at (ands_from h + k)) v ≡ (h.inputs + k + 1 == v)
  by_and k v low =
      let e : h.inputs + (k + 1) ≡ h.inputs + k + 1 = omega arith in
      ap (λ (x : AagLine). defines h x v) (l.ands k low)
      ∙ (defines_one (may_be_defined h (2 * (h.inputs + (k + 1)))) (2 * (h.inputs + (k + 1)) / 2) v (fresh h (h.inputs + (k + 1)) (omega arith) (omega (arith, low, l.total)))
      ∙ ap (λ (x : ℕ). x == v) (half (h.inputs + (k + 1)) ∙ e))

  next_at : (j i v : ℕ) (a d : Bool) → i ≡ j + 1 → is_defined h at j v ≡ a → defines h (at j) v ≡ d → is_defined h at i v ≡ (a || d)
  next_at j i v a d e f g =
      ap (λ (n : ℕ). is_defined h at n v) e ∙ (defined_next h at j v ∙ (ap (λ (b : Bool). b || defines h (at j) v) f ∙ ap (λ (b : Bool). a || b) g))

  of_inputs : (k v : ℕ) → k ≤ h.inputs → is_defined h at (1 + k) v ≡ nat_le v k
  of_inputs zero v to = ap (λ (n : ℕ). is_defined h at n v) (omega arith) ∙ start v
  of_inputs (suc k) v to =
      let s : k + 1 ≡ suc k = omega arith in
      next_at (1 + k) (1 + suc k) v (nat_le v k) (k + 1 == v) (omega arith) (of_inputs k v (omega (arith, to))) (by_input k v (omega (arith, to)))
      ∙ (one_more v k ∙ ap (nat_le v) s)

  of_outputs : (k v : ℕ) → k ≤ h.outputs → is_defined h at (outputs_from h + k) v ≡ nat_le v h.inputs
  of_outputs zero v to = ap (λ (n : ℕ). is_defined h at n v) (omega arith) ∙ of_inputs h.inputs v (omega arith)
  of_outputs (suc k) v to =
      next_at (outputs_from h + k) (outputs_from h + suc k) v (nat_le v h.inputs) false (omega arith) (of_outputs k v (omega (arith, to))) (by_output k v (omega (arith, to)))
      ∙ or-false (nat_le v h.inputs)

  pub of_ands : (k v : ℕ) → k ≤ h.ands → is_defined h at (ands_from h + k) v ≡ nat_le v (h.inputs + k)
  of_ands zero v to =
      let s : h.inputs ≡ h.inputs + 0 = omega arith in
      ap (λ (n : ℕ). is_defined h at n v) (omega arith) ∙ (of_outputs h.outputs v (omega arith) ∙ ap (nat_le v) s)
  of_ands (suc k) v to =
      let s : h.inputs + k + 1 ≡ h.inputs + suc k = omega arith in
      next_at (ands_from h + k) (ands_from h + suc k) v (nat_le v (h.inputs + k)) (h.inputs + k + 1 == v) (omega arith) (of_ands k v (omega (arith, to))) (by_and k v (omega (arith, to)))
      ∙ (one_more v (h.inputs + k) ∙ ap (nat_le v) s)

  fine_input : (k : ℕ) → k < h.inputs → line_fault h at (1 + k) (Input (2 * (k + 1))) ≡ None
  fine_input k low =
      let a : may_be_defined h (2 * (k + 1)) ≡ true = fresh h (k + 1) (omega arith) (omega (arith, low, l.total)) in
      let b : is_defined h at (1 + k) (2 * (k + 1) / 2) ≡ false = ap (is_defined h at (1 + k)) (half (k + 1)) ∙ (of_inputs k (k + 1) (omega (arith, low)) ∙ above (k + 1) k (omega arith)) in
      ap (λ (t : Bool). first_of (not t) Literal (first_of (is_defined h at (1 + k) (2 * (k + 1) / 2)) Twice None)) a ∙ not_below (is_defined h at (1 + k) (2 * (k + 1) / 2)) Twice b

  all_defined : (x : ℕ) → x / 2 ≤ h.inputs + h.ands → is_defined h at (rest_from h) (x / 2) ≡ true
  all_defined x small = of_ands h.ands (x / 2) (omega arith) ∙ le-leb (x / 2) (h.inputs + h.ands) small

  fine_output : (j x : ℕ) → x / 2 ≤ h.inputs + h.ands → line_fault h at j (Output x) ≡ None
  fine_output j x small =
      let a : nat_lt (greatest_literal h) x ≡ false = in_range h x (omega (arith, small, l.total)) in
      ap (λ (t : Bool). first_of t Literal (first_of (not (is_defined h at (rest_from h) (x / 2))) Undefined None)) a
      ∙ ap (λ (t : Bool). first_of (not t) Undefined None) (all_defined x small)

  so_far : (k x : ℕ) → k < h.ands → x / 2 ≤ h.inputs + k → is_defined h at (ands_from h + k) (x / 2) ≡ true
  so_far k x low small = of_ands k (x / 2) (omega (arith, low)) ∙ le-leb (x / 2) (h.inputs + k) small

  fine_and : (k x y : ℕ) → k < h.ands → x / 2 ≤ h.inputs + k → y / 2 ≤ h.inputs + k
      → line_fault h at (ands_from h + k) (And (record { lhs = 2 * (h.inputs + (k + 1)); rhs0 = x; rhs1 = y })) ≡ None
  fine_and k x y low small smaller =
      let a : may_be_defined h (2 * (h.inputs + (k + 1))) ≡ true = fresh h (h.inputs + (k + 1)) (omega arith) (omega (arith, low, l.total)) in
      let b : nat_lt (greatest_literal h) x ≡ false = in_range h x (omega (arith, small, low, l.total)) in
      let c : nat_lt (greatest_literal h) y ≡ false = in_range h y (omega (arith, smaller, low, l.total)) in
      let d : is_defined h at (ands_from h + k) (2 * (h.inputs + (k + 1)) / 2) ≡ false =
      ap (is_defined h at (ands_from h + k)) (half (h.inputs + (k + 1))) ∙ (of_ands k (h.inputs + (k + 1)) (omega (arith, low)) ∙ above (h.inputs + (k + 1)) (h.inputs + k) (omega arith)) in
      let e : is_defined h at (ands_from h + k) (x / 2) ≡ true = so_far k x low small in
      let f : is_defined h at (ands_from h + k) (y / 2) ≡ true = so_far k y low smaller in
      five (may_be_defined h (2 * (h.inputs + (k + 1)))) (nat_lt (greatest_literal h) x) (nat_lt (greatest_literal h) y) (is_defined h at (ands_from h + k) (2 * (h.inputs + (k + 1)) / 2))
      (is_defined h at (ands_from h + k) (x / 2)) (is_defined h at (ands_from h + k) (y / 2)) Literal Twice Undefined a b c d e f
    where
      five : (p q r s t u : Bool) (w1 w2 w3 : AagWhy) → p ≡ true → q ≡ false → r ≡ false → s ≡ false → t ≡ true → u ≡ true
          → first_of (not p || q || r) w1 (first_of s w2 (first_of (not t || not u) w3 None)) ≡ None
      five p q r s t u w1 w2 w3 a b c d e f = rw (a, b, c, d, e, f) refl

  -- by the places
  pub laid_fine : IsFine h at (rest_from h)
  laid_fine j from low = by (cases_lt j (outputs_from h)) (cases_lt j (ands_from h))
    where
      of_line : (line : AagLine) → at j ≡ line → line_fault h at j line ≡ None → line_fault h at j (at j) ≡ None
      of_line line e f = ap (line_fault h at j) e ∙ f

      moved : (i : ℕ) (line : AagLine) → j ≡ i → at i ≡ line → line_fault h at i line ≡ None → line_fault h at j (at j) ≡ None
      moved i line e f g = ap (λ (n : ℕ). line_fault h at n (at n)) e ∙ (ap (line_fault h at i) f ∙ g)

      by : (j < outputs_from h) ⊎ (outputs_from h ≤ j) → (j < ands_from h) ⊎ (ands_from h ≤ j) → line_fault h at j (at j) ≡ None
      by (inl a) b =
          let e : j ≡ 1 + (j - 1) = omega (arith, from) in
          let k : j - 1 < h.inputs = omega (arith, from, a) in
          moved (1 + (j - 1)) (Input (2 * ((j - 1) + 1))) e (l.inputs (j - 1) k) (fine_input (j - 1) k)
      by (inr a) (inl b) =
          let e : j ≡ outputs_from h + (j - outputs_from h) = omega (arith, a) in
          let k : j - outputs_from h < h.outputs = omega (arith, a, b) in
          moved (outputs_from h + (j - outputs_from h)) (Output (outs (j - outputs_from h))) e (l.outputs (j - outputs_from h) k)
          (fine_output (outputs_from h + (j - outputs_from h)) (outs (j - outputs_from h)) (l.small_outs (j - outputs_from h) k))
      by (inr a) (inr b) =
          let e : j ≡ ands_from h + (j - ands_from h) = omega (arith, b) in
          let k : j - ands_from h < h.ands = omega (arith, b, low) in
          moved (ands_from h + (j - ands_from h)) (And (record { lhs = 2 * (h.inputs + ((j - ands_from h) + 1)); rhs0 = first (j - ands_from h); rhs1 = second (j - ands_from h) })) e
          (l.ands (j - ands_from h) k) (fine_and (j - ands_from h) (first (j - ands_from h)) (second (j - ands_from h)) k (l.small_first (j - ands_from h) k) (l.small_second (j - ands_from h) k))
