-- Numbers as programs write them: digits, with an optional `-` in front if they are decimal.
use Rattle.std.specs.Prelude.{◌≡◌, ℕ, ◌-◌, ◌^◌, ◌%◌, ◌<◌, Bool, true, false, ◌==◌, nat_le, if◌then◌else◌, List, [], ◌∷◌, ◌++◌, length, take_while, Option, Some, None, unwrap_or}
use Rattle.std.specs.List.{list_all}
use Rattle.std.specs.Str.Parse.{digits_value}
use Rattle.y86_base.specs.declared.number.Number.{Number}
use Rattle.y86_base.specs.Text.{after_byte, begins, behind, below_word, is_decimal}

-- the longest run of digits at the front, as a number, and what follows; a magnitude of 2^64 or more is None
abbrev pub digits_at : Bool → ℕ → (ℕ → Bool) → List ℕ → Number × List ℕ
digits_at negative base is_digit text =
    (record { negative = negative; magnitude = below_word (digits_value base (take_while is_digit text)) }, behind is_digit text)

-- decimal digits whose sign was read
abbrev pub unsigned_at : Bool → List ℕ → Option (Number × List ℕ)
unsigned_at negative text = if begins is_decimal text then Some (digits_at negative 10 is_decimal text) else None

-- decimal digits with an optional `-` directly in front, and what follows them
unfoldable pub decimal_at : List ℕ → Option (Number × List ℕ)
decimal_at text = unsigned_at (begins (λ byte. byte == 45) text) (unwrap_or (after_byte 45 text) text)

-- the sign of a number as it is written
abbrev pub sign_of : Bool → List ℕ
sign_of true = 45 ∷ []
sign_of false = []

-- text = sign digits rest, with at least one digit, and the longest run of them
pub record IsDecimal (text : List ℕ) (number : Number) (rest : List ℕ) : Type 0 where
  pub digits : List ℕ
  pub whole : text ≡ sign_of number.negative ++ (digits ++ rest)
  pub each : list_all is_decimal digits ≡ true
  pub some : 0 < length digits
  pub longest : begins is_decimal rest ≡ false
  pub value : number.magnitude ≡ below_word (digits_value 10 digits)

-- a magnitude as a word, modulo 2^64, if it is at most `below` with a `-`, or at most `above` without one
abbrev pub word_of_magnitude : ℕ → ℕ → Bool → Option ℕ → Option ℕ
word_of_magnitude below above negative None = None
word_of_magnitude below above true (Some n) = if nat_le n below then Some ((2 ^ 64 - n) % 2 ^ 64) else None
word_of_magnitude below above false (Some n) = if nat_le n above then Some n else None

-- a written number as a word, if it is between -below and above
unfoldable pub word_within : ℕ → ℕ → Number → Option ℕ
word_within below above number = word_of_magnitude below above number.negative number.magnitude
