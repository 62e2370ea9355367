-- The numeral of a number has at least the width asked for, and read back it gives the number.
use Rattle.std.proofs.Common.{◌≡◌, ⊎_elim, All, [], max, ◌&&◌, ◌||◌, ℕ, zero, suc, ◌+◌, ◌-◌, ◌*◌, eqb, ◌/◌, ◌%◌, ◌^◌, ◌<◌, ◌≤◌, Bool, true, false, cond, nat_lt, List, ◌∷◌, ◌++◌, length, replicate, slice_get, Some, refl, sym, ap, ◌∙◌, arith, length-append}
use Rattle.std.proofs.Math.Nat.{div-add-mod, pow-le-pow_left, pow-suc, pow-zero}
use Rattle.std.proofs.lemmas.Bool.Decides.{eqb_tells, nat_tests}
use Rattle.std.proofs.lemmas.List.Elements.{All-append, All-cons, All-nil, All-replicate}
use Rattle.std.proofs.lemmas.Nat.{div_below}
use Rattle.std.proofs.lemmas.List.{length-replicate}
use Rattle.std.proofs.lemmas.Fmt.{digits_is_IsNumeral}
use Rattle.std.specs.Char.{digit_value}
use Rattle.std.specs.List.{list_all}
use Rattle.std.specs.Fmt.{digit_glyph, digits, digits_onto}
use Rattle.std.specs.Str.Parse.{AllDigits, IsNumeral, digits_value, digits_value_after}
use Rattle.y86_base.specs.Numeral.{numeral}
use Rattle.y86_base.specs.Text.{is_decimal, is_lower_hex}
use Rattle.y86_base.proofs.Digits.{digits_onto-last, digits_onto-more, digits_onto-nothing}

zeros_in_front : (base : ℕ) (zeros : ℕ) (digits : List ℕ) → digits_value base (replicate zeros 48 ++ digits) ≡ digits_value base digits
zeros_in_front base zero digits = refl
zeros_in_front base (suc zeros) digits =
    let e : 0 * base + 0 ≡ 0 = omega arith in
    ap (λ n. digits_value_after base n (replicate zeros 48 ++ digits)) e ∙ zeros_in_front base zeros digits

pub numeral_value : (base least n : ℕ) → 2 ≤ base → base ≤ 16 → n < base ^ 64 → digits_value base (numeral base least n) ≡ n
unfolding numeral
numeral_value base least n low high small =
    zeros_in_front base (least - length (digits base false n)) (digits base false n) ∙ (digits_is_IsNumeral base false low high n small).1

pub numeral_width : (base least n : ℕ) → least ≤ length (numeral base least n)
unfolding numeral
numeral_width base least n =
    omega (arith, length-append (replicate (least - length (digits base false n)) 48) (digits base false n), length-replicate {A = ℕ})

-- a width of 1 adds no `0` in front
pub numeral_plain : (base n : ℕ) → 2 ≤ base → base ≤ 16 → n < base ^ 64 → numeral base 1 n ≡ digits base false n
unfolding numeral
numeral_plain base n low high small =
    let some : 0 < length (digits base false n) = (digits_is_IsNumeral base false low high n small).0.0 in
    let none : 1 - length (digits base false n) ≡ 0 = omega arith in
    ap (λ k. replicate k 48 ++ digits base false n) none

-- the digits of every number below 2^64 fit into 64 bytes
pub word_has_room : (base n : ℕ) → 2 ≤ base → n < 2 ^ 64 → n < base ^ 64
word_has_room base n low small = let most : 2 ^ 64 ≤ base ^ 64 = pow-le-pow_left low 64 in omega arith

AllDigits-zeros : (base zeros : ℕ) (digits : List ℕ) → 0 < base → AllDigits base digits → AllDigits base (replicate zeros 48 ++ digits)
AllDigits-zeros base zero digits some h = h
AllDigits-zeros base (suc zeros) digits some h = (some, AllDigits-zeros base zeros digits some h)

pub numeral_digits : (base least n : ℕ) → 2 ≤ base → base ≤ 16 → n < base ^ 64 → IsNumeral base (numeral base least n)
unfolding numeral
numeral_digits base least n low high small =
    let is : IsNumeral base (digits base false n) = (digits_is_IsNumeral base false low high n small).0 in
    let some : 0 < length (digits base false n) = is.0 in
    let zeros = least - length (digits base false n) in
    (omega (arith, length-append (replicate zeros 48) (digits base false n)), AllDigits-zeros base zeros (digits base false n) (omega arith) is.1)

-- a lower-case digit of a numeral
abbrev IsLower : ℕ → Type 0
IsLower digit = (is_decimal digit || is_lower_hex digit) ≡ true

glyph_lower : (small : Bool) (digit : ℕ) → nat_lt digit 10 ≡ small → digit < 16 → IsLower (cond small (48 + digit) (87 + digit))
glyph_lower true digit e h = grind (arith, nat_tests)
glyph_lower false digit e h = grind (arith, nat_tests)

either_lower : (t : Bool) (xs ys : List ℕ) → All IsLower xs → All IsLower ys → All IsLower (cond t xs ys)
either_lower true xs ys h k = h
either_lower false xs ys h k = k

digits_lower : (base : ℕ) → 0 < base → base ≤ 16 → (room n : ℕ) (behind : List ℕ) → All IsLower behind → All IsLower (digits_onto room base false n behind)
digits_lower base some high zero n behind h = h
digits_lower base some high (suc room) n behind h =
    let digit : n % base < 16 = omega arith in
    let more = All-cons IsLower (digit_glyph false (n % base)) behind (glyph_lower (nat_lt (n % base) 10) (n % base) refl digit) h in
    either_lower (eqb (n / base) 0) _ _ more (digits_lower base some high room (n / base) (digit_glyph false (n % base) ∷ behind) more)

pub numeral_lower : (base least n : ℕ) → 2 ≤ base → base ≤ 16 → All IsLower (numeral base least n)
unfolding numeral digits
numeral_lower base least n low high =
    All-append IsLower (replicate (least - length (digits base false n)) 48) (digits base false n)
    (All-replicate IsLower (least - length (digits base false n)) 48 refl) (digits_lower base (omega arith) high 64 n [] (All-nil IsLower))

-- a digit other than 0 is not written `0`
glyph_above : (small : Bool) (digit : ℕ) → 0 < digit → cond small (48 + digit) (87 + digit) ≡ 48 → ⊥
glyph_above true digit some e = omega arith
glyph_above false digit some e = omega arith

-- the first digit is `0`, after the digits of n went in front of others
abbrev BeginsWithZero : ℕ → ℕ → ℕ → List ℕ → Type 0
BeginsWithZero room base n behind = slice_get (digits_onto room base false n behind) 0 ≡ Some 48

leading_last : (base room n : ℕ) (behind : List ℕ) → 0 < n → n / base ≡ 0 → BeginsWithZero (suc room) base n behind → ⊥
leading_last base room n behind some none e =
    let digit : 0 < n % base = omega (arith, div-add-mod n base, ap (λ q. base * q) none) in
    let first : Some (digit_glyph false (n % base)) ≡ Some 48 =
    sym (ap (λ ds. slice_get ds 0) (digits_onto-last base n behind (suc room) (omega arith) none)) ∙ e in
    glyph_above (nat_lt (n % base) 10) (n % base) digit (cc)

leading_more : (base room n : ℕ) (behind : List ℕ) →
    ((m : ℕ) (front : List ℕ) → 0 < m → m < base ^ room → BeginsWithZero room base m front → ⊥) →
    2 ≤ base → n < base ^ room * base → (n / base ≡ 0 → ⊥) → BeginsWithZero (suc room) base n behind → ⊥
leading_more base room n behind shorter low fits more e =
    let room_is : suc room - 1 ≡ room = omega arith in
    shorter (n / base) (digit_glyph false (n % base) ∷ behind) (omega arith) (div_below n base (base ^ room) (omega arith) fits)
    (ap (λ k. slice_get (digits_onto k base false (n / base) (digit_glyph false (n % base) ∷ behind)) 0) (sym room_is)
    ∙ sym (ap (λ ds. slice_get ds 0) (digits_onto-more base n behind (suc room) (omega arith) more)) ∙ e)

-- the digits of a number other than 0 do not begin with `0`
leading : (base : ℕ) → 2 ≤ base → (room n : ℕ) (behind : List ℕ) → 0 < n → n < base ^ room → BeginsWithZero room base n behind → ⊥
leading base low zero n behind some fits e = absurd (omega (arith, pow-zero base))
leading base low (suc room) n behind some fits e =
    ⊎_elim (λ last. leading_last base room n behind some last.1 e)
    (λ more. leading_more base room n behind (leading base low room) low (omega (arith, pow-suc base room)) more.1 e)
    (eqb_tells (n / base) 0)

-- two or more digits do not begin with `0`
several : (base n : ℕ) → 2 ≤ base → n < base ^ 64 → 1 < length (digits base false n) → slice_get (digits base false n) 0 ≡ Some 48 → ⊥
several base zero low small long e =
    let none : 0 / base ≡ 0 = omega arith in
    let one : digits base false 0 ≡ digit_glyph false (0 % base) ∷ [] = sym (digits_onto-nothing base 0) ∙ digits_onto-last base 0 [] 64 (omega arith) none in
    omega (arith, ap length one)
several base (suc n) low small long e =
    leading base low 64 (suc n) [] (omega arith) small (ap (λ ds. slice_get ds 0) (digits_onto-nothing base (suc n)) ∙ e)

pub numeral_no_wider : (base least n : ℕ) → 2 ≤ base → n < base ^ 64 →
    max least 1 < length (numeral base least n) → slice_get (numeral base least n) 0 ≡ Some 48 → ⊥
unfolding numeral
numeral_no_wider base least n low small long e =
    let ds = digits base false n in
    let zeros = least - length ds in
    let width : length (replicate zeros 48 ++ ds) ≡ zeros + length ds =
    length-append (replicate zeros 48) ds ∙ ap (λ k. k + length ds) (length-replicate zeros 48) in
    let none : zeros ≡ 0 = omega arith in
    several base n low small (omega arith) (ap (λ k. slice_get (replicate k 48 ++ ds) 0) (sym none) ∙ e)

-- a byte whose digit's value is below 10 is a decimal digit
pub digit_is_decimal : (byte : ℕ) → digit_value byte < 10 → is_decimal byte ≡ true
digit_is_decimal byte h = grind (arith, nat_tests)

-- each digit in the radix 10 is a decimal digit
pub all_decimal : (digits : List ℕ) → AllDigits 10 digits → list_all is_decimal digits ≡ true
all_decimal [] h = refl
all_decimal (byte ∷ bytes) h = ap (λ b. b && list_all is_decimal bytes) (digit_is_decimal byte h.0) ∙ all_decimal bytes h.1
