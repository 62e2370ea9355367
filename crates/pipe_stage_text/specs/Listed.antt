-- What an object text lists at an address: the text after the `|` of the line whose bytes begin there.
use Rattle.std.specs.Prelude.{◌≡◌, ◌↔◌, ◌<◌, ◌^◌, ℕ, Bool, true, false, not, ◌==◌, nat_eq, nat_lt, if◌then◌else◌, List, [], ◌∷◌, ◌++◌, length, reverse, Option, Some, None, option_and_then, unwrap_or, Vec}
use Rattle.std.specs.List.{AllByRecursion, list_all}
use Rattle.std.specs.Map.{lookup}
use Rattle.std.specs.Option.{option_map, option_or}
use Rattle.std.specs.Str.Parse.{digits_value}
use Rattle.y86_base.specs.Text.{after_byte, begins, behind, below_word, is_blank, lines}
use Rattle.yo_object.specs.Grammar.{IsObjectLine, digits_in_line}
use Rattle.yo_object.specs.ObjectText.{Digits}

-- the address of a well-formed line with bytes
abbrev pub address_behind : Digits → Option ℕ
address_behind digits = if nat_lt 0 (length digits.bytes) then below_word (digits_value 16 digits.address) else None

unfoldable pub address_of : List ℕ → Option ℕ
address_of line = option_and_then address_behind (digits_in_line line)

-- what follows the first `|` of a line
abbrev pub is_before_bar : ℕ → Bool
is_before_bar byte = not (byte == 124)

abbrev pub comment_of : List ℕ → List ℕ
comment_of line = unwrap_or (after_byte 124 (behind is_before_bar line)) []

-- a text without the blanks at its end
abbrev pub without_end : List ℕ → List ℕ
without_end text = reverse (behind is_blank (reverse text))

-- the text of a line, without the blanks in front and at the end
unfoldable pub text_of : List ℕ → List ℕ
text_of line = without_end (behind is_blank (comment_of line))

-- a text that isn't empty
abbrev pub some_text : List ℕ → Option (List ℕ)
some_text [] = None
some_text (byte ∷ rest) = Some (byte ∷ rest)

-- the text that a line lists at an address: the line's own text, if it isn't empty and the address is the line's
unfoldable pub text_at : ℕ → List ℕ → Option (List ℕ)
text_at address line = option_and_then (λ own. if nat_eq own address then some_text (text_of line) else None) (address_of line)

-- the text that lines list at an address: the last line that lists one there counts
unfoldable pub listed_in : ℕ → List (List ℕ) → Option (List ℕ)
listed_in address [] = None
listed_in address (line ∷ rest) = option_or (listed_in address rest) (text_at address line)

-- the text that an object text lists at an address
abbrev pub listed : List ℕ → ℕ → Option (List ℕ)
listed object address = listed_in address (lines object)

-- ---- the table of these texts in the code: its entries are addresses and texts

unfoldable pub text_in : {A : Type 0} → List (ℕ × Vec ℕ A) → ℕ → Option (List ℕ)
text_in {A} entries address = option_map (λ (text : Vec ℕ A). text.items) (lookup (nat_eq address) entries)

-- ---- which line it is

abbrev pub ListsNone : ℕ → List ℕ → Type 0
ListsNone address line = text_at address line ≡ None

abbrev pub LastLineCounts : Type 0
LastLineCounts =
    (address : ℕ) (before after : List (List ℕ)) (line text : List ℕ) → text_at address line ≡ Some text → AllByRecursion (ListsNone address) after →
    listed_in address (before ++ line ∷ after) ≡ Some text

abbrev pub NoneIsListed : Type 0
NoneIsListed = (address : ℕ) (all : List (List ℕ)) → AllByRecursion (ListsNone address) all → listed_in address all ≡ None

-- ---- a line, by the grammar

-- a text between blanks that neither begins nor ends with a blank
pub record IsBetween (whole text : List ℕ) : Type 0 where
  pub front : List ℕ
  pub back : List ℕ
  pub parts : whole ≡ front ++ (text ++ back)
  pub front_blank : list_all is_blank front ≡ true
  pub back_blank : list_all is_blank back ≡ true
  pub starts : begins is_blank text ≡ false
  pub ends : begins is_blank (reverse text) ≡ false

-- a well-formed line with an address and bytes, and a text after its first `|`
pub record Lists (address : ℕ) (line text : List ℕ) : Type 0 where
  pub digits : List ℕ
  pub pairs : List ℕ
  pub form : IsObjectLine line digits pairs
  pub number : digits_value 16 digits ≡ address
  pub word : address < 2 ^ 64
  pub bytes : 0 < length pairs
  pub head : List ℕ
  pub comment : List ℕ
  pub bar : line ≡ head ++ (124 ∷ comment)
  pub first : list_all is_before_bar head ≡ true
  pub between : IsBetween comment text
  pub some : 0 < length text

abbrev pub ListsByForm : Type 0
ListsByForm = (address : ℕ) (line text : List ℕ) → (text_at address line ≡ Some text) ↔ Lists address line text
