-- The tokens of assembly text. Each reader skips the blanks in front of its token and reads the longest token. It
-- returns the token with the bytes after it, or None if something else is there.
use Rattle.std.specs.Prelude.{ℕ, nat_eq, codes, Bool, false, ◌&&◌, ◌||◌, ◌==◌, if◌then◌else◌, List, Option, Some, None, drop, take_while, unwrap_or}
use Rattle.std.specs.List.{starts_with}
use Rattle.y86_base.specs.declared.number.Number.{Number}
use Rattle.y86_base.specs.Number.{decimal_at, digits_at}
use Rattle.y86_base.specs.Text.{after_byte, begins, behind, is_blank, is_hex, is_letter, is_name_byte}

-- a letter or `_`
abbrev pub is_name_start : ℕ → Bool
is_name_start byte = is_letter byte || byte == 95

-- one of the signs `$` `,` `(` `)` `:`
unfoldable pub sign : ℕ → List ℕ → Option (List ℕ)
sign wanted bytes = after_byte wanted (behind is_blank bytes)

-- the bytes after a sign that may be missing
unfoldable pub after_sign : ℕ → List ℕ → List ℕ
after_sign wanted bytes = unwrap_or (sign wanted bytes) bytes

-- a name is a letter or `_` and then letters, digits or `_`
abbrev pub name_at : List ℕ → Option (List ℕ × List ℕ)
name_at text =
    if begins is_name_start text then Some (take_while is_name_byte text, behind is_name_byte text) else None

unfoldable pub name : List ℕ → Option (List ℕ × List ℕ)
name bytes = name_at (behind is_blank bytes)

-- `0x` followed by a hex digit
abbrev pub is_hex_number : List ℕ → Bool
is_hex_number text = starts_with nat_eq text (codes "0x") && begins is_hex (drop 2 text)

-- a number is decimal with an optional `-`, or `0x` and hex digits of either case
abbrev pub number_at : List ℕ → Option (Number × List ℕ)
number_at text = if is_hex_number text then Some (digits_at false 16 is_hex (drop 2 text)) else decimal_at text

unfoldable pub number : List ℕ → Option (Number × List ℕ)
number bytes = number_at (behind is_blank bytes)

-- whether a sign comes next
unfoldable pub next_is : ℕ → List ℕ → Bool
next_is wanted bytes = begins (λ byte. byte == wanted) (behind is_blank bytes)
