-- What all file formats share: blanks, digits, names and lines.
use Rattle.std.specs.Prelude.{◌≡◌, ℕ, ◌-◌, ◌^◌, Bool, true, false, ◌&&◌, ◌||◌, nat_le, nat_lt, ◌==◌, if◌then◌else◌, All, List, [], ◌∷◌, ◌++◌, drop, Option, Some, None}
use Rattle.std.specs.List.{list_all, onto_first, prefix_len}

-- a space, a tab or a carriage return
abbrev pub is_blank : ℕ → Bool
is_blank byte = byte == 32 || byte == 9 || byte == 13

-- a line feed, which ends a line
abbrev pub is_line_feed : ℕ → Bool
is_line_feed byte = byte == 10

-- `0` to `9`
abbrev pub is_decimal : ℕ → Bool
is_decimal byte = nat_le 48 byte && nat_le byte 57

abbrev pub is_lower_hex : ℕ → Bool
is_lower_hex byte = nat_le 97 byte && nat_le byte 102

abbrev pub is_upper_hex : ℕ → Bool
is_upper_hex byte = nat_le 65 byte && nat_le byte 70

-- `0` to `9`, `a` to `f` or `A` to `F`
abbrev pub is_hex : ℕ → Bool
is_hex byte = is_decimal byte || is_lower_hex byte || is_upper_hex byte

-- the value of a hex digit; 0 for any other byte
abbrev pub hex_value : ℕ → ℕ
hex_value byte =
    if is_decimal byte then byte - 48 else (if is_lower_hex byte then byte - 87 else (if is_upper_hex byte then byte - 55 else 0))

-- an ASCII letter
abbrev pub is_letter : ℕ → Bool
is_letter byte = (nat_le 97 byte && nat_le byte 122) || (nat_le 65 byte && nat_le byte 90)

-- a byte of a name: a letter, a digit or `_`
abbrev pub is_name_byte : ℕ → Bool
is_name_byte byte = is_letter byte || byte == 95 || is_decimal byte

-- there is a first byte, and it passes the test
abbrev pub begins : (ℕ → Bool) → List ℕ → Bool
begins passes [] = false
begins passes (byte ∷ bytes) = passes byte

-- what follows a byte, if the text begins with it
abbrev pub after_byte : ℕ → List ℕ → Option (List ℕ)
after_byte byte [] = None
after_byte byte (first ∷ rest) = if first == byte then Some rest else None

-- what follows the bytes at the front that pass a test
abbrev pub behind : (ℕ → Bool) → List ℕ → List ℕ
behind passes text = drop (prefix_len passes text) text

-- a text begins with the longest run of bytes that pass a test, and the rest follows (`law_of_runs`)
pub record IsRun (passes : ℕ → Bool) (text front rest : List ℕ) : Type 0 where
  pub whole : text ≡ front ++ rest
  pub each : list_all passes front ≡ true
  pub longest : begins passes rest ≡ false

-- a number as a word, if it is below 2^64
abbrev pub below_word : ℕ → Option ℕ
below_word n = if nat_lt n (2 ^ 64) then Some n else None

-- a text without a line feed
abbrev pub HasNoLineFeed : List ℕ → Type 0
HasNoLineFeed text = All (λ byte. is_line_feed byte ≡ false) text

-- the text of lines, each followed by a line feed
abbrev pub with_line_feeds : List (List ℕ) → List ℕ
with_line_feeds [] = []
with_line_feeds (line ∷ lines) = line ++ (10 ∷ with_line_feeds lines)

-- the lines of a text: each ends at a line feed or at the end of the text; no line follows a line feed that ends the
-- text (`law_of_lines`)
abbrev pub lines : List ℕ → List (List ℕ)
lines [] = []
lines (byte ∷ bytes) = if is_line_feed byte then [] ∷ lines bytes else onto_first byte (lines bytes)
