-- The form of an object line as a grammar, to check the definition that reads it.
use Rattle.std.specs.Prelude.{◌≡◌, ◌↔◌, ℕ, ◌<◌, true, List, ◌∷◌, ◌++◌, length, Option, Some, option_and_then}
use Rattle.std.specs.List.{list_all}
use Rattle.y86_base.specs.Text.{is_blank, is_hex, behind}
use Rattle.yo_object.specs.ObjectText.{after_prefix, is_line_end, Digits, digits_of}

-- line = blanks "0x" address ":" blanks bytes blanks comment: the address has at least one digit, and the comment is
-- empty or begins with `|`
pub record IsObjectLine (line address bytes : List ℕ) : Type 0 where
  pub lead : List ℕ
  pub gap : List ℕ
  pub trail : List ℕ
  pub comment : List ℕ
  pub text : line ≡ lead ++ (48 ∷ 120 ∷ (address ++ (58 ∷ (gap ++ (bytes ++ (trail ++ comment))))))
  pub lead_blank : list_all is_blank lead ≡ true
  pub address_hex : list_all is_hex address ≡ true
  pub address_some : 0 < length address
  pub gap_blank : list_all is_blank gap ≡ true
  pub bytes_hex : list_all is_hex bytes ≡ true
  pub trail_blank : list_all is_blank trail ≡ true
  pub comment_ends : is_line_end comment ≡ true

-- line = blanks "0x" rest
pub record BeginsObjectLine (line rest : List ℕ) : Type 0 where
  pub lead : List ℕ
  pub text : line ≡ lead ++ (48 ∷ 120 ∷ rest)
  pub lead_blank : list_all is_blank lead ≡ true

-- the digits that the definition reads in a line
abbrev pub digits_in_line : List ℕ → Option Digits
digits_in_line line = option_and_then digits_of (after_prefix (behind is_blank line))

-- the definition reads exactly the well-formed lines, and their digits
abbrev pub ReadsTheForm : Type 0
ReadsTheForm =
    (line address bytes : List ℕ) → (digits_in_line line ≡ Some (record { address = address; bytes = bytes })) ↔ IsObjectLine line address bytes

-- it skips exactly the lines that don't begin with blanks and `0x`
abbrev pub SkipsTheRest : Type 0
SkipsTheRest = (line rest : List ℕ) → (after_prefix (behind is_blank line) ≡ Some rest) ↔ BeginsObjectLine line rest
