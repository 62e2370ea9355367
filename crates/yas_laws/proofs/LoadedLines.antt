-- By the definition of object text, a line is skipped, stores its bytes, or has a fault.
use Rattle.std.proofs.Common.{◌≡◌, ◌⊎◌, ℕ, ◌+◌, ◌/◌, ◌%◌, ◌<◌, ◌≤◌, Bool, true, false, cond, ◌&&◌, nat_lt, eqb, List, length, Option, Some, None, Result, Ok, Err, refl, ap, sym, subst, ◌∙◌, inl, inr, arith, le-ltb, ltb-true, ltb-false, ne_eqb}
use Rattle.std.specs.Prelude.{option_and_then}
use Rattle.std.specs.Option.{option_map_or}
use Rattle.std.specs.Str.Parse.{digits_value}
use Rattle.std.proofs.lemmas.Bool.{eqb-true, eqb-false, lt-ltb, and_parts}
use Rattle.y86_base.specs.Text.{is_blank, behind}
use Rattle.yo_object.specs.declared.object.YoWhy.{YoWhy}
use Rattle.yo_object.specs.declared.object.YoWhy.TheVariants.{Syntax, OddDigits, OutsideMemory, AddressTooWide}
use Rattle.y86_base.specs.Image.{with_bytes}
use Rattle.yo_object.specs.ObjectText.{after_prefix, Digits, digits_of, bytes_of_pairs, put_digits, put_line}
use Rattle.yo_object.specs.Grammar.{IsObjectLine}
use Rattle.yo_object.specs.LoadedText.{IsSkipped, PutsBytes, HaveFault, HasFault}
use Rattle.yo_object.proofs.Bytes.{pairs_length}
use Rattle.yas_laws.proofs.Grammar.{form_read, form_found, begin_read, begin_found}

-- the digits of a well-formed line

not_both : (a b : Bool) → (a ≡ true → b ≡ false) → (a && b) ≡ false
not_both true b h = h refl
not_both false b h = refl

then_not : (a b : Bool) → a ≡ true → (a && b) ≡ false → b ≡ false
then_not true b h e = e
then_not false b h e = absurd (cc)

-- the memory after a well-formed line whose digits have no fault
record IsPutBy (memory : List ℕ) (digits : Digits) (after : List ℕ) : Type 0 where
  narrow : length digits.address ≤ 16
  even : length digits.bytes % 2 ≡ 0
  inside : 0 < length digits.bytes → digits_value 16 digits.address + length digits.bytes / 2 ≤ length memory
  after_is : after ≡ with_bytes memory (digits_value 16 digits.address) (bytes_of_pairs digits.bytes)

abbrev SayDigits : List ℕ → Digits → Result (List ℕ) YoWhy → Type 0
SayDigits memory digits (Ok after) = IsPutBy memory digits after
SayDigits memory digits (Err why) = HaveFault (length memory) digits.address digits.bytes why

say_digits : (memory : List ℕ) (digits : Digits) → SayDigits memory digits (put_digits memory digits)
unfolding put_digits
say_digits memory digits =
    by (nat_lt 16 (length digits.address)) (eqb (length digits.bytes % 2) 1)
    (nat_lt 0 (length digits.bytes) && nat_lt (length memory) (digits_value 16 digits.address + length digits.bytes / 2)) refl refl refl
  where
    by : (wide odd outside : Bool) → nat_lt 16 (length digits.address) ≡ wide → eqb (length digits.bytes % 2) 1 ≡ odd →
        (nat_lt 0 (length digits.bytes) && nat_lt (length memory) (digits_value 16 digits.address + length digits.bytes / 2)) ≡ outside →
        SayDigits memory digits (cond wide (Err AddressTooWide) (cond odd (Err OddDigits) (cond outside (Err OutsideMemory)
        (Ok (with_bytes memory (digits_value 16 digits.address) (bytes_of_pairs digits.bytes))))))
    by true odd outside w o x = ltb-true 16 (length digits.address) w
    by false true outside w o x = (ltb-false 16 (length digits.address) w, eqb-true (length digits.bytes % 2) 1 o)
    by false false true w o x =
        let both = and_parts (nat_lt 0 (length digits.bytes)) _ x in
        let odd = eqb-false (length digits.bytes % 2) 1 o in
        (ltb-false 16 (length digits.address) w, omega (arith, odd), ltb-true 0 (length digits.bytes) both.0, ltb-true (length memory) _ both.1)
    by false false false w o x =
        let odd = eqb-false (length digits.bytes % 2) 1 o in
        record {
          narrow = ltb-false 16 (length digits.address) w;
          even = omega (arith, odd);
          inside = λ some. ltb-false (length memory) _ (then_not _ _ (lt-ltb 0 (length digits.bytes) some) x);
          after_is = refl;
        }

-- the memory after a line without a fault
abbrev pub IsPut : ℕ → List ℕ → List ℕ → List ℕ → Type 0
IsPut size memory line after = (IsSkipped line × (after ≡ memory)) ⊎ ((p : PutsBytes size line) × (after ≡ with_bytes memory p.address p.bytes))

abbrev SayLine : List ℕ → List ℕ → Result (List ℕ) YoWhy → Type 0
SayLine memory line (Ok after) = IsPut (length memory) memory line after
SayLine memory line (Err why) = HasFault (length memory) line why

no_digits : (d : Digits) → None ≡ Some d → ⊥
no_digits d e = cc

no_text : (text : List ℕ) → None ≡ Some text → ⊥
no_text text e = cc

of_the_form : (memory line : List ℕ) (digits : Digits) (put : Result (List ℕ) YoWhy) → IsObjectLine line digits.address digits.bytes →
    SayDigits memory digits put → SayLine memory line put
of_the_form memory line digits (Err why) form said = inr (digits.address, digits.bytes, form, said)
of_the_form memory line digits (Ok after) form said =
    let count : length (bytes_of_pairs digits.bytes) ≡ length digits.bytes / 2 = pairs_length digits.bytes in
    inr (
      record {
        address = digits_value 16 digits.address;
        bytes = bytes_of_pairs digits.bytes;
        digits = digits.address;
        pairs = digits.bytes;
        form = form;
        narrow = said.narrow;
        number = refl;
        written = refl;
        double = omega (arith, count, said.even);
        inside = λ some. omega (arith, count, said.inside (omega (arith, count)));
      },
      said.after_is,
    )

say_line : (memory line : List ℕ) → SayLine memory line (put_line memory line)
unfolding put_line
say_line memory line = by (after_prefix (behind is_blank line)) refl
  where
    read : (text : List ℕ) (found : Option Digits) → after_prefix (behind is_blank line) ≡ Some text → digits_of text ≡ found →
        SayLine memory line (option_map_or (put_digits memory) found (Err Syntax))
    read text None e f = inl (
      refl,
      record {
        rest = text;
        begins = begin_found line text e;
        formless = λ digits pairs form. no_digits _ (sym (ap (option_and_then digits_of) e ∙ f) ∙ form_read line digits pairs form);
      },
    )
    read text (Some digits) e f =
        of_the_form memory line digits (put_digits memory digits) (form_found line digits.address digits.bytes (ap (option_and_then digits_of) e ∙ f)) (say_digits memory digits)

    by : (prefix : Option (List ℕ)) → after_prefix (behind is_blank line) ≡ prefix →
        SayLine memory line (option_map_or (λ text. option_map_or (put_digits memory) (digits_of text) (Err Syntax)) prefix (Ok memory))
    by None e = inl (λ rest begins. no_text rest (sym e ∙ begin_read line rest begins), refl)
    by (Some text) e = read text (digits_of text) e refl

pub is_put : (size : ℕ) (memory line after : List ℕ) → length memory ≡ size → put_line memory line ≡ Ok after → IsPut size memory line after
is_put size memory line after long e = subst (λ n. IsPut n memory line after) long (subst (SayLine memory line) e (say_line memory line))

pub is_faulty : (size : ℕ) (memory line : List ℕ) (why : YoWhy) → length memory ≡ size → put_line memory line ≡ Err why → HasFault size line why
is_faulty size memory line why long e = subst (λ n. HasFault n line why) long (subst (SayLine memory line) e (say_line memory line))

-- and conversely: a well-formed line stores its bytes, and a skipped one leaves the memory unchanged

put_form : (memory line address bytes : List ℕ) → IsObjectLine line address bytes →
    put_line memory line ≡ put_digits memory (record { address = address; bytes = bytes })
unfolding put_line
put_form memory line address bytes form = by (after_prefix (behind is_blank line)) (form_read line address bytes form)
  where
    by : (p : Option (List ℕ)) → option_and_then digits_of p ≡ Some (record { address = address; bytes = bytes }) →
        option_map_or (λ text. option_map_or (put_digits memory) (digits_of text) (Err Syntax)) p (Ok memory) ≡ put_digits memory (record { address = address; bytes = bytes })
    by None e = absurd (cc)
    by (Some text) e = rw e refl

digits_put : (size : ℕ) (memory line : List ℕ) (p : PutsBytes size line) → length memory ≡ size →
    put_digits memory (record { address = p.digits; bytes = p.pairs }) ≡ Ok (with_bytes memory p.address p.bytes)
unfolding put_digits
digits_put size memory line p long =
    let wide : nat_lt 16 (length p.digits) ≡ false = le-ltb 16 (length p.digits) p.narrow in
    let odd : eqb (length p.pairs % 2) 1 ≡ false = ne_eqb (length p.pairs % 2) 1 (λ e. omega (arith, p.double)) in
    let outside : (nat_lt 0 (length p.pairs) && nat_lt (length memory) (digits_value 16 p.digits + length p.pairs / 2)) ≡ false =
    not_both _ _ (λ e. le-ltb (length memory) _ (let some : 0 < length p.pairs = ltb-true 0 (length p.pairs) e in omega (arith, p.number, p.double, p.inside))) in
    rw (wide, odd, outside) (λ i. Ok (with_bytes memory (p.number i) (p.written i)))

pub line_put : (size : ℕ) (memory line : List ℕ) (p : PutsBytes size line) → length memory ≡ size → put_line memory line ≡ Ok (with_bytes memory p.address p.bytes)
line_put size memory line p long = put_form memory line p.digits p.pairs p.form ∙ digits_put size memory line p long

pub line_skipped : (memory line : List ℕ) → IsSkipped line → put_line memory line ≡ Ok memory
unfolding put_line
line_skipped memory line skipped = by (after_prefix (behind is_blank line)) refl
  where
    by : (prefix : Option (List ℕ)) → after_prefix (behind is_blank line) ≡ prefix →
        option_map_or (λ text. option_map_or (put_digits memory) (digits_of text) (Err Syntax)) prefix (Ok memory) ≡ Ok memory
    by None e = refl
    by (Some text) e = absurd (skipped text (begin_found line text e))
