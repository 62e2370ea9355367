-- Which object text puts a byte into memory.
use Rattle.std.specs.Prelude.{ℕ, Bool, false, nat_lt, List, length}
use Rattle.std.specs.List.{list_any}
use Rattle.std.specs.Option.{option_map_or}
use Rattle.y86_base.specs.Text.{lines}
use Rattle.yo_object.specs.Grammar.{digits_in_line}

-- the line has digits of bytes
abbrev pub puts_byte : List ℕ → Bool
puts_byte line = option_map_or (λ digits. nat_lt 0 (length digits.bytes)) (digits_in_line line) false

-- a line of the text has digits of bytes
abbrev pub puts_bytes : List ℕ → Bool
puts_bytes text = list_any puts_byte (lines text)
