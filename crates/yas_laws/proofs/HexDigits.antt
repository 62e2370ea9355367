-- The hex digits that are printed for a number and for bytes are read back as these.
use Rattle.std.proofs.Common.{◌≡◌, ℕ, zero, suc, ◌+◌, ◌-◌, ◌*◌, ◌/◌, ◌%◌, ◌^◌, ◌<◌, ◌≤◌, true, false, List, [], ◌∷◌, ◌++◌, length, ◌&&◌, replicate, refl, ap, ◌∙◌, inl, inr, arith, length-append}
use Rattle.std.specs.Char.{digit_value}
use Rattle.std.specs.List.{list_all}
use Rattle.std.specs.Fmt.{digit_glyph, digits_onto, digits}
use Rattle.std.specs.Str.Parse.{AllDigits, digits_value}
use Rattle.std.proofs.Math.Nat.{pow-suc}
use Rattle.std.proofs.lemmas.Bool.{cases_lt, and_parts}
use Rattle.std.proofs.lemmas.Bool.Decides.{nat_tests}
use Rattle.std.proofs.lemmas.Fmt.{digits_is_IsNumeral}
use Rattle.std.proofs.lemmas.List.{length-replicate}
use Rattle.std.proofs.lemmas.List.Elements.{All-head, All-tail}
use Rattle.y86_base.specs.Image.{AreBytes}
use Rattle.y86_base.specs.Text.{is_hex, hex_value}
use Rattle.y86_base.specs.Numeral.{numeral}
use Rattle.y86_base.proofs.Digits.{digits_onto-nothing, digits_onto-last, digits_onto-more}
use Rattle.y86_base.proofs.Numerals.{numeral_value, numeral_width}
use Rattle.yo_object.specs.ObjectText.{bytes_of_pairs}
use Rattle.yo_object.specs.Printed.{hex_bytes}
use Rattle.y86_base.proofs.Runs.{list_all-append}

-- digits

hex_digit : (c : ℕ) → digit_value c < 16 → is_hex c ≡ true
hex_digit c h = grind (arith, nat_tests)

hex_value_is : (c : ℕ) → is_hex c ≡ true → hex_value c ≡ digit_value c
hex_value_is c h = grind (arith, nat_tests)

all_hex : (made : List ℕ) → AllDigits 16 made → list_all is_hex made ≡ true
all_hex [] h = refl
all_hex (c ∷ made) h = rw (hex_digit c h.0, all_hex made h.1) refl

-- a number below 16^k has at most k digits
few_digits : (k n : ℕ) (others : List ℕ) (room : ℕ) → k < room → n < 16 ^ suc k → length (digits_onto room 16 false n others) ≤ suc k + length others
few_digits zero n others room h small = omega (arith, ap length (digits_onto-last 16 n others room (omega arith) (omega (arith, small))))
few_digits (suc k) n others room h small =
    elim (cases_lt n 16) [
      | inl lt ↦ omega (arith, ap length (digits_onto-last 16 n others room (omega arith) (omega arith)))
      | inr le ↦
          (let less : n / 16 < 16 ^ suc k = omega (arith, small, pow-suc 16 (suc k)) in
          omega (arith, ap length (digits_onto-more 16 n others room (omega arith) (λ z. omega arith)), few_digits k (n / 16) (digit_glyph false (n % 16) ∷ others) (room - 1) (omega arith) less))
    ]

zeros_hex : (count : ℕ) (others : List ℕ) → list_all is_hex others ≡ true → list_all is_hex (replicate count 48 ++ others) ≡ true
zeros_hex zero others h = h
zeros_hex (suc count) others h = zeros_hex count others h

-- the numeral of a number consists of hex digits that write this number
pub record IsHexOf (least most n : ℕ) (made : List ℕ) : Type 0 where
  pub hex : list_all is_hex made ≡ true
  pub number : digits_value 16 made ≡ n
  pub wide : least ≤ length made
  pub few : length made ≤ most

pub numeral_is_hex : (least most n : ℕ) → least ≤ suc most → most < 64 → n < 16 ^ suc most → n < 16 ^ 64 → IsHexOf least (suc most) n (numeral 16 least n)
unfolding numeral
numeral_is_hex least most n within low small fits =
    let zeros : ℕ = least - length (digits 16 false n) in
    let few : length (digits_onto 64 16 false n []) ≤ suc most + 0 = few_digits most n [] 64 low small in
    record {
      hex = zeros_hex zeros (digits 16 false n) (all_hex (digits 16 false n) (digits_is_IsNumeral 16 false (omega arith) (omega arith) n fits).0.1);
      number = numeral_value 16 least n (omega arith) (omega arith) fits;
      wide = numeral_width 16 least n;
      few = omega (arith, few, ap length (digits_onto-nothing 16 n), length-append (replicate zeros 48) (digits 16 false n), length-replicate {A = ℕ});
    }

-- bytes

-- pairs of hex digits that write these bytes
pub record ArePairsOf (bytes made : List ℕ) : Type 0 where
  pub hex : list_all is_hex made ≡ true
  pub bytes_are : bytes_of_pairs made ≡ bytes
  pub double : length made ≡ 2 * length bytes

first_pair : (byte : ℕ) (two made : List ℕ) → IsHexOf 2 2 byte two → bytes_of_pairs (two ++ made) ≡ byte ∷ bytes_of_pairs made
first_pair byte [] made h = absurd (omega (arith, h.wide))
first_pair byte (high ∷ []) made h = absurd (omega (arith, h.wide))
first_pair byte (high ∷ low ∷ []) made h =
    let of_high = and_parts (is_hex high) (is_hex low && true) h.hex in
    let of_low = and_parts (is_hex low) true of_high.1 in
    let value : 16 * hex_value high + hex_value low ≡ byte = omega (arith, h.number, hex_value_is high of_high.0, hex_value_is low of_low.0) in
    ap (λ b. b ∷ bytes_of_pairs made) value
first_pair byte (high ∷ low ∷ more ∷ two) made h = absurd (omega (arith, h.few))

pub hex_bytes_are_pairs : (bytes : List ℕ) → AreBytes bytes → ArePairsOf bytes (hex_bytes bytes)
hex_bytes_are_pairs [] h = record { hex = refl; bytes_are = refl; double = refl }
hex_bytes_are_pairs (byte ∷ bytes) h =
    let small : byte < 256 = All-head (λ b. b < 256) byte bytes h in
    let two = numeral_is_hex 2 1 byte (omega arith) (omega arith) (omega arith) (omega arith) in
    let rest = hex_bytes_are_pairs bytes (All-tail (λ b. b < 256) byte bytes h) in
    record {
      hex = list_all-append is_hex (numeral 16 2 byte) (hex_bytes bytes) two.hex rest.hex;
      bytes_are = first_pair byte (numeral 16 2 byte) (hex_bytes bytes) two ∙ ap (λ bs. byte ∷ bs) rest.bytes_are;
      double = omega (arith, two.wide, two.few, rest.double, length-append (numeral 16 2 byte) (hex_bytes bytes));
    }
