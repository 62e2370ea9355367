-- The definition of a decimal number accepts exactly the form that the grammar gives (`law_of_decimals`).
use Rattle.std.proofs.Common.{◌≡◌, ◌↔◌, ℕ, ◌^◌, ◌<◌, Bool, true, false, cond, List, [], ◌∷◌, ◌++◌, length, take_while, refl, sym, ap, ◌∙◌, Option, Some, None, arith}
use Rattle.std.specs.Prelude.{unwrap_or, ◌==◌}
use Rattle.std.specs.List.{list_all}
use Rattle.std.specs.Str.Parse.{digits_value}
use Rattle.std.proofs.lemmas.Bool.{eqb-true, lt-ltb, and_parts}
use Rattle.std.proofs.lemmas.Bool.Decides.{nat_tests}
use Rattle.y86_base.specs.declared.number.Number.{Number}
use Rattle.y86_base.specs.Number.{IsDecimal, decimal_at, digits_at, sign_of, unsigned_at}
use Rattle.y86_base.specs.Text.{begins, behind, below_word, is_decimal}
use Rattle.y86_base.proofs.Runs.{begins_front, behind-run, run_and_rest, run_passes, run_some, run_stops, take_while-run}

-- a number below 2^64 is returned unchanged
pub below_word_small : (n : ℕ) → n < 2 ^ 64 → below_word n ≡ Some n
below_word_small n small = ap (λ b. cond b (Some n) None) (lt-ltb n (2 ^ 64) small)

-- the form after the sign
record IsUnsigned (negative : Bool) (text : List ℕ) (number : Number) (rest : List ℕ) : Type 0 where
  digits : List ℕ
  sign : number.negative ≡ negative
  whole : text ≡ digits ++ rest
  each : list_all is_decimal digits ≡ true
  some : 0 < length digits
  longest : begins is_decimal rest ≡ false
  value : number.magnitude ≡ below_word (digits_value 10 digits)

unsigned_found : (negative : Bool) (text : List ℕ) (number : Number) (rest : List ℕ) → unsigned_at negative text ≡ Some (number, rest) → IsUnsigned negative text number rest
unsigned_found negative text number rest h = at (begins is_decimal text) refl h
  where
    at : (b : Bool) → begins is_decimal text ≡ b → cond {A = Option (Number × List ℕ)} b (Some (digits_at negative 10 is_decimal text)) None ≡ Some (number, rest) → IsUnsigned negative text number rest
    at true e found =
        let mine : Number × List ℕ = digits_at negative 10 is_decimal text in
        let theirs : Number × List ℕ = (number, rest) in
        let same : mine ≡ theirs = cc in
        let rest_is : behind is_decimal text ≡ rest = ap (λ (p : Number × List ℕ). p.1) same in
        record {
          digits = take_while is_decimal text;
          sign = ap (λ (p : Number × List ℕ). p.0.negative) (sym same);
          whole = run_and_rest is_decimal text ∙ ap (λ r. take_while is_decimal text ++ r) rest_is;
          each = run_passes is_decimal text;
          some = run_some is_decimal text e;
          longest = rw (← rest_is) (run_stops is_decimal text);
          value = ap (λ (p : Number × List ℕ). p.0.magnitude) (sym same);
        }
    at false e found = absurd (cc)

same_number : (number : Number) (negative : Bool) (magnitude : Option ℕ) → number.negative ≡ negative → number.magnitude ≡ magnitude →
    (record { negative = negative; magnitude = magnitude }) ≡ number
same_number number negative magnitude e f = rw (← e, ← f) refl

abbrev paired : Number → List ℕ → Option (Number × List ℕ)
paired number rest = Some (number, rest)

abbrev number_with : Bool → List ℕ → List ℕ → Option (Number × List ℕ)
number_with negative digits rest = paired (record { negative = negative; magnitude = below_word (digits_value 10 digits) }) rest

unsigned_read : (negative : Bool) (text : List ℕ) (number : Number) (rest : List ℕ) → IsUnsigned negative text number rest → unsigned_at negative text ≡ Some (number, rest)
unsigned_read negative text number rest u =
    let there : begins is_decimal text ≡ true = rw u.whole (begins_front is_decimal u.digits rest u.some u.each) in
    let front : take_while is_decimal text ≡ u.digits = rw u.whole (take_while-run is_decimal u.digits rest u.each u.longest) in
    let last : behind is_decimal text ≡ rest = rw u.whole (behind-run is_decimal u.digits rest u.each u.longest) in
    ap (λ b. cond {A = Option (Number × List ℕ)} b (Some (digits_at negative 10 is_decimal text)) None) there
    ∙ ap (λ (f : List ℕ). number_with negative f (behind is_decimal text)) front
    ∙ ap (λ (r : List ℕ). number_with negative u.digits r) last
    ∙ ap (λ (n : Number). paired n rest) (same_number number negative _ u.sign u.value)

with_sign : (negative : Bool) (text unsigned : List ℕ) (number : Number) (rest : List ℕ) → text ≡ sign_of negative ++ unsigned → IsUnsigned negative unsigned number rest → IsDecimal text number rest
with_sign negative text unsigned number rest e u = record {
  digits = u.digits;
  whole = rw (u.sign, ← u.whole) e;
  each = u.each;
  some = u.some;
  longest = u.longest;
  value = u.value;
}

pub decimal_found : (text : List ℕ) (number : Number) (rest : List ℕ) → decimal_at text ≡ Some (number, rest) → IsDecimal text number rest
unfolding decimal_at
decimal_found [] number rest h = absurd (cc)
decimal_found (byte ∷ bytes) number rest h = at (byte == 45) refl h
  where
    at : (b : Bool) → (byte == 45) ≡ b → unsigned_at b (unwrap_or (cond b (Some bytes) None) (byte ∷ bytes)) ≡ Some (number, rest) → IsDecimal (byte ∷ bytes) number rest
    at true e found =
        let this : byte ≡ 45 = eqb-true byte 45 e in
        with_sign true (byte ∷ bytes) bytes number rest (ap (λ b. b ∷ bytes) this) (unsigned_found true bytes number rest found)
    at false e found = with_sign false (byte ∷ bytes) (byte ∷ bytes) number rest refl (unsigned_found false (byte ∷ bytes) number rest found)

digit_no_sign : (byte : ℕ) → is_decimal byte ≡ true → (byte == 45) ≡ false
digit_no_sign byte h = grind (arith, nat_tests)

no_sign : (digits rest : List ℕ) → 0 < length digits → list_all is_decimal digits ≡ true → decimal_at (digits ++ rest) ≡ unsigned_at false (digits ++ rest)
unfolding decimal_at
no_sign [] rest some each = absurd (omega arith)
no_sign (x ∷ digits) rest some each = rw (digit_no_sign x (and_parts (is_decimal x) (list_all is_decimal digits) each).0) refl

signed : (text : List ℕ) → decimal_at (45 ∷ text) ≡ unsigned_at true text
unfolding decimal_at
signed text = refl

pub decimal_read : (text : List ℕ) (number : Number) (rest : List ℕ) → IsDecimal text number rest → decimal_at text ≡ Some (number, rest)
decimal_read text number rest d = at number.negative refl
  where
    at : (b : Bool) → number.negative ≡ b → decimal_at text ≡ Some (number, rest)
    at true e =
        let whole : text ≡ 45 ∷ (d.digits ++ rest) = d.whole ∙ ap (λ (b : Bool). sign_of b ++ (d.digits ++ rest)) e in
        ap decimal_at whole ∙ signed (d.digits ++ rest)
        ∙ unsigned_read true (d.digits ++ rest) number rest (record { digits = d.digits; sign = e; whole = refl; each = d.each; some = d.some; longest = d.longest; value = d.value })
    at false e =
        let whole : text ≡ d.digits ++ rest = d.whole ∙ ap (λ (b : Bool). sign_of b ++ (d.digits ++ rest)) e in
        ap decimal_at whole ∙ no_sign d.digits rest d.some d.each
        ∙ unsigned_read false (d.digits ++ rest) number rest (record { digits = d.digits; sign = e; whole = refl; each = d.each; some = d.some; longest = d.longest; value = d.value })

pub decimal_is : (text : List ℕ) (number : Number) (rest : List ℕ) → (decimal_at text ≡ Some (number, rest)) ↔ IsDecimal text number rest
decimal_is text number rest = (decimal_found text number rest, decimal_read text number rest)
