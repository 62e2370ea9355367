-- The lines of an AIGER text, and the numbers on them.
use Rattle.std.specs.Prelude.{ℕ, ◌-◌, ◌^◌, if◌then◌else◌, List, [], ◌∷◌, length, drop, take_while, Option, Some, None, option_map, option_and_then, unwrap_or}
use Rattle.std.specs.Str.Parse.{digits_value}
use Rattle.y86_base.specs.Text.{after_byte, begins, behind, below_word, is_decimal, is_line_feed, with_line_feeds}
use Rattle.aiger_out.specs.declared.form.Header.{Header}
use Rattle.aiger_out.specs.declared.form.AndLine.{AndLine}

-- a byte put before the first line, if there is one
abbrev pub grown : ℕ → List (List ℕ) → List (List ℕ)
grown byte [] = []
grown byte (line ∷ lines) = (byte ∷ line) ∷ lines

-- the lines that a line feed ends
abbrev pub ended : List ℕ → List (List ℕ)
ended [] = []
ended (byte ∷ bytes) = if is_line_feed byte then [] ∷ ended bytes else grown byte (ended bytes)

-- what follows the last line feed
abbrev pub unended : List ℕ → List ℕ
unended text = drop (length (with_line_feeds (ended text))) text

-- a number; from 2^64 on it counts as 2^64 - 1, which is far above each bound of the form
abbrev pub counted : ℕ → ℕ
counted n = unwrap_or (below_word n) (2 ^ 64 - 1)

-- a number at the front, with as many decimal digits as there are, and what follows it
abbrev pub number_at : List ℕ → Option (ℕ × List ℕ)
number_at text =
    if begins is_decimal text then Some (counted (digits_value 10 (take_while is_decimal text)), behind is_decimal text) else None

-- a number after one blank, and what follows it
abbrev pub number_behind : List ℕ → Option (ℕ × List ℕ)
number_behind text = option_and_then number_at (after_byte 32 text)

-- a number that nothing follows
abbrev pub alone : ℕ × List ℕ → Option ℕ
alone (n, []) = Some n
alone (n, byte ∷ bytes) = None

-- a line of one number
abbrev pub one_number : List ℕ → Option ℕ
one_number line = option_and_then alone (number_at line)

-- a line of three numbers, one blank apart
abbrev pub three_numbers : List ℕ → Option AndLine
three_numbers line =
    option_and_then (λ a. option_and_then (λ b. option_and_then (λ c. option_map (λ n. record { lhs = a.0; rhs0 = b.0; rhs1 = n }) (alone c))
    (number_behind b.1)) (number_behind a.1)) (number_at line)

-- what follows `aag`
abbrev pub behind_aag : List ℕ → Option (List ℕ)
behind_aag line = option_and_then (after_byte 103) (option_and_then (after_byte 97) (after_byte 97 line))

-- a header: `aag M I L O A`
abbrev pub header_of : List ℕ → Option Header
header_of line =
    option_and_then (λ rest. option_and_then (λ m. option_and_then (λ i. option_and_then (λ l. option_and_then (λ o. option_and_then (λ a.
    option_map (λ n. record { most = m.0; inputs = i.0; latches = l.0; outputs = o.0; ands = n }) (alone a))
    (number_behind o.1)) (number_behind l.1)) (number_behind i.1)) (number_behind m.1)) (number_behind rest)) (behind_aag line)
