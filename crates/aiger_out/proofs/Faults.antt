-- What follows if a line has no fault.
use Rattle.std.proofs.Common.{◌≡◌, ℕ, ◌/◌, ◌%◌, ◌≤◌, Bool, true, false, not, ◌&&◌, ◌||◌, ◌==◌, nat_lt, nat_le, Option, None, refl, sym, ap, ◌∙◌, arith}
use Rattle.std.proofs.lemmas.Bool.Decides.{nat_tests}
use Rattle.std.proofs.lemmas.Bool.{not-false, or_parts, and_parts}
use Rattle.y86_base.proofs.Numbers.{eqb_self}
use borrow.Author.Tests.{eqb-true}
use Rattle.aiger_out.specs.declared.fault.AagWhy.{AagWhy}
use Rattle.aiger_out.specs.declared.form.Header.{Header}
use Rattle.aiger_out.specs.declared.form.AndLine.{AndLine}
use Rattle.aiger_out.specs.declared.form.AagLine.{AagLine}
use Rattle.aiger_out.specs.declared.form.AagLine.TheVariants.{Input, Output, And, Other}
use Rattle.aiger_out.specs.Form.{defines, first_of, is_defined, may_be_defined, line_fault, rest_from, greatest_literal}

pub first_of_none : (b : Bool) (why : AagWhy) (rest : Option AagWhy) → first_of b why rest ≡ None → (b ≡ false) × (rest ≡ None)
first_of_none true why rest e = absurd (cc)
first_of_none false why rest e = (refl, e)

-- an input line without a fault
pub record IsFineInput (h : Header) (at : ℕ → AagLine) (j x : ℕ) : Type 0 where
  pub fresh : may_be_defined h x ≡ true
  pub new : is_defined h at j (x / 2) ≡ false

pub fine_input : (h : Header) (at : ℕ → AagLine) (j x : ℕ) → line_fault h at j (Input x) ≡ None → IsFineInput h at j x
fine_input h at j x e =
    let a = first_of_none (not (may_be_defined h x)) _ _ e in
    let b = first_of_none (is_defined h at j (x / 2)) _ _ a.1 in
    record { fresh = not-false (may_be_defined h x) a.0; new = b.0 }

-- an output line without a fault
pub record IsFineOutput (h : Header) (at : ℕ → AagLine) (x : ℕ) : Type 0 where
  pub inside : nat_lt (greatest_literal h) x ≡ false
  pub defined : is_defined h at (rest_from h) (x / 2) ≡ true

pub fine_output : (h : Header) (at : ℕ → AagLine) (j x : ℕ) → line_fault h at j (Output x) ≡ None → IsFineOutput h at x
fine_output h at j x e =
    let a = first_of_none (nat_lt (greatest_literal h) x) _ _ e in
    let b = first_of_none (not (is_defined h at (rest_from h) (x / 2))) _ _ a.1 in
    record { inside = a.0; defined = not-false (is_defined h at (rest_from h) (x / 2)) b.0 }

-- an AND line without a fault
pub record IsFineAnd (h : Header) (at : ℕ → AagLine) (j : ℕ) (a : AndLine) : Type 0 where
  pub fresh : may_be_defined h a.lhs ≡ true
  pub new : is_defined h at j (a.lhs / 2) ≡ false
  pub first : is_defined h at j (a.rhs0 / 2) ≡ true
  pub second : is_defined h at j (a.rhs1 / 2) ≡ true

pub fine_and : (h : Header) (at : ℕ → AagLine) (j : ℕ) (a : AndLine) → line_fault h at j (And a) ≡ None → IsFineAnd h at j a
fine_and h at j a e =
    let x = first_of_none (not (may_be_defined h a.lhs) || nat_lt (greatest_literal h) a.rhs0 || nat_lt (greatest_literal h) a.rhs1) _ _ e in
    let y = first_of_none (is_defined h at j (a.lhs / 2)) _ _ x.1 in
    let z = first_of_none (not (is_defined h at j (a.rhs0 / 2)) || not (is_defined h at j (a.rhs1 / 2))) _ _ y.1 in
    let low = or_parts (not (may_be_defined h a.lhs) || nat_lt (greatest_literal h) a.rhs0) (nat_lt (greatest_literal h) a.rhs1) x.0 in
    let lower = or_parts (not (may_be_defined h a.lhs)) (nat_lt (greatest_literal h) a.rhs0) low.0 in
    let both = or_parts (not (is_defined h at j (a.rhs0 / 2))) (not (is_defined h at j (a.rhs1 / 2))) z.0 in
    record {
      fresh = not-false (may_be_defined h a.lhs) lower.0;
      new = y.0;
      first = not-false (is_defined h at j (a.rhs0 / 2)) both.0;
      second = not-false (is_defined h at j (a.rhs1 / 2)) both.1;
    }

-- a fresh literal is in range, and not that of the constant
pub fresh_bounds : (h : Header) (x : ℕ) → may_be_defined h x ≡ true → (2 ≤ x) × (x ≤ greatest_literal h)
fresh_bounds h x e =
    let a = and_parts (x % 2 == 0 && nat_le 2 x) (nat_le x (greatest_literal h)) e in
    let b = and_parts (x % 2 == 0) (nat_le 2 x) a.0 in
    let low = b.1 in
    let high = a.1 in
    (grind (arith, nat_tests), grind (arith, nat_tests))

pub own : (fresh : Bool) (v : ℕ) → fresh ≡ true → (fresh && v == v) ≡ true
own true v e = eqb_self v
own false v e = absurd (cc)

pub other_variable : (h : Header) (x : ℕ) → (may_be_defined h x && x / 2 == 0) ≡ true → ⊥
other_variable h x e =
    let a = and_parts (may_be_defined h x) (x / 2 == 0) e in
    let b = fresh_bounds h x a.0 in
    let z : x / 2 ≡ 0 = eqb-true (x / 2) 0 a.1 in
    omega (arith, z, b.0)

-- a variable that a line without a fault defines is new
pub defines_new : (h : Header) (at : ℕ → AagLine) (j : ℕ) (line : AagLine) (v : ℕ) → line_fault h at j line ≡ None → defines h line v ≡ true → is_defined h at j v ≡ false
defines_new h at j (Input x) v fine d = sym (ap (is_defined h at j) (eqb-true (x / 2) v (and_parts (may_be_defined h x) (x / 2 == v) d).1)) ∙ (fine_input h at j x fine).new
defines_new h at j (And a) v fine d = sym (ap (is_defined h at j) (eqb-true (a.lhs / 2) v (and_parts (may_be_defined h a.lhs) (a.lhs / 2 == v) d).1)) ∙ (fine_and h at j a fine).new
defines_new h at j (Output x) v fine d = absurd (cc)
defines_new h at j Other v fine d = absurd (cc)

pub never_zero : (h : Header) (line : AagLine) → defines h line 0 ≡ true → ⊥
never_zero h (Input x) d = other_variable h x d
never_zero h (And a) d = other_variable h a.lhs d
never_zero h (Output x) d = cc
never_zero h Other d = cc
