-- Object text, as the assembler of CS:APP 3e prints it (figure 4.8): lines that store bytes at addresses.
use Rattle.std.specs.Prelude.{ℕ, ◌+◌, ◌*◌, ◌/◌, ◌%◌, Bool, true, ◌&&◌, ◌==◌, nat_lt, if◌then◌else◌, List, [], ◌∷◌, length, replicate, Option, Some, None, option_and_then, Result, Ok, Err, take_while}
use Rattle.std.specs.Option.{option_map_or}
use Rattle.std.specs.Str.Parse.{digits_value}
use Rattle.y86_base.specs.Image.{with_bytes}
use Rattle.y86_base.specs.Text.{after_byte, behind, hex_value, is_blank, is_hex, lines}
use Rattle.yo_object.specs.declared.object.YoWhy.{YoWhy}
use Rattle.yo_object.specs.declared.object.YoWhy.TheVariants.{Syntax, OddDigits, OutsideMemory, AddressTooWide}
use Rattle.yo_object.specs.declared.object.YoFault.{YoFault}

-- what follows `0x`, if the text begins with it
abbrev pub after_prefix : List ℕ → Option (List ℕ)
after_prefix text = option_and_then (after_byte 120) (after_byte 48 text)

-- the end of the line, or `|` with anything after it
abbrev pub is_line_end : List ℕ → Bool
is_line_end [] = true
is_line_end (first ∷ rest) = first == 124

-- the digits of a line: those of its address, and those of its bytes
pub record Digits : Type 0 where
  pub address : List ℕ
  pub bytes : List ℕ

-- the digits of a line: the address digits, which are before a colon, and the byte digits of the text after it
abbrev pub digits_behind_colon : List ℕ → List ℕ → Option Digits
digits_behind_colon address text =
    if nat_lt 0 (length address) && is_line_end (behind is_blank (behind is_hex (behind is_blank text)))
    then Some (record { address = address; bytes = take_while is_hex (behind is_blank text) })
    else None

-- after `0x`: address digits, `:`, blanks, byte digits, blanks, and the end of the line or `|`
unfoldable pub digits_of : List ℕ → Option Digits
digits_of text = option_and_then (digits_behind_colon (take_while is_hex text)) (after_byte 58 (behind is_hex text))

-- the bytes that pairs of hex digits write
abbrev pub bytes_of_pairs : List ℕ → List ℕ
bytes_of_pairs [] = []
bytes_of_pairs (high ∷ []) = []
bytes_of_pairs (high ∷ low ∷ digits) = (16 * hex_value high + hex_value low) ∷ bytes_of_pairs digits

-- the memory after a well-formed line, or the first of its faults
unfoldable pub put_digits : List ℕ → Digits → Result (List ℕ) YoWhy
put_digits memory digits =
    if nat_lt 16 (length digits.address) then Err AddressTooWide
    else (if length digits.bytes % 2 == 1 then Err OddDigits
    else (if nat_lt 0 (length digits.bytes) && nat_lt (length memory) (digits_value 16 digits.address + length digits.bytes / 2) then Err OutsideMemory
    else Ok (with_bytes memory (digits_value 16 digits.address) (bytes_of_pairs digits.bytes))))

-- the memory after a line, or its fault; a line that doesn't begin with `0x` after its blanks is skipped
unfoldable pub put_line : List ℕ → List ℕ → Result (List ℕ) YoWhy
put_line memory line =
    option_map_or (λ text. option_map_or (put_digits memory) (digits_of text) (Err Syntax)) (after_prefix (behind is_blank line)) (Ok memory)

-- the result of the later lines on the memory after this line, or this line's fault
abbrev pub after_line : ℕ → (List ℕ → Result (List ℕ) YoFault) → Result (List ℕ) YoWhy → Result (List ℕ) YoFault
after_line number rest (Ok memory) = rest memory
after_line number rest (Err why) = Err (record { line = number; why = why })

-- the memory after these lines, or the first line with a fault; `number` is the number of the first of them
unfoldable pub put_lines : ℕ → List ℕ → List (List ℕ) → Result (List ℕ) YoFault
put_lines number memory [] = Ok memory
put_lines number memory (line ∷ rest) = after_line number (λ after. put_lines (number + 1) after rest) (put_line memory line)

-- the image of an object text at a size, or the first line with a fault and the reason; lines count from 1
unfoldable pub object_of : List ℕ → ℕ → Result (List ℕ) YoFault
object_of text size = put_lines 1 (replicate size 0) (lines text)
