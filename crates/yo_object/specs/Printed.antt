-- The object text of a listing: each line of the source after its address and its bytes.
use Rattle.std.specs.Prelude.{ℕ, ◌-◌, List, ◌++◌, codes, length, take, drop, replicate, Option, Some, None}
use Rattle.std.specs.List.{flat_map}
use Rattle.y86_base.specs.Numeral.{numeral}
use Rattle.yas_asm.specs.declared.listing.Line.{Line}
use Rattle.yas_asm.specs.Listing.{Listed}

-- bytes as two lower-case hex digits each
abbrev pub hex_bytes : List ℕ → List ℕ
hex_bytes bytes = flat_map (numeral 16 2) bytes

-- a text with blanks after it up to a width
abbrev pub padded : ℕ → List ℕ → List ℕ
padded width text = text ++ replicate (width - length text) 32

-- what precedes a line: its address and its bytes, or blanks of the same width
unfoldable pub front : Option ℕ → List ℕ → List ℕ
front None bytes = replicate 27 32
front (Some address) bytes = codes "0x" ++ numeral 16 3 address ++ codes ": " ++ padded 20 (hex_bytes bytes)

-- the text of a line in its source
abbrev pub text_of : List ℕ → ℕ → ℕ → List ℕ
text_of source from to = take (to - from) (drop from source)

unfoldable pub printed_line : List ℕ → Line → List ℕ
printed_line source line = front line.addr line.bytes.items ++ codes " | " ++ text_of source line.from line.to ++ codes "\n"

-- the lines, one after another
unfoldable pub printed : Listed → List ℕ
printed listed = flat_map (printed_line listed.source) listed.lines
