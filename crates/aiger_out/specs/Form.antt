-- AIGER in ASCII without latches (A. Biere, The AIGER And-Inverter Graph Format, 2007): the form of a text, and the first of its faults.
use Rattle.std.specs.Prelude.{◌≡◌, ℕ, zero, suc, ◌+◌, ◌-◌, ◌*◌, ◌/◌, ◌%◌, ◌<◌, ◌≤◌, Bool, true, false, not, ◌&&◌, ◌||◌, ◌==◌, nat_lt, nat_le, if◌then◌else◌, codes, List, [], ◌∷◌, length, slice_get, Option, Some, None, option_and_then, ◌⊎◌}
use Rattle.std.specs.Option.{option_map_or}
use Rattle.std.specs.Str.{bytes_eq}
use Rattle.y86_base.specs.Text.{after_byte}
use Rattle.aiger_out.specs.declared.fault.AagWhy.{AagWhy}
use Rattle.aiger_out.specs.declared.fault.AagWhy.TheVariants.{Syntax, Latches, TooMany, Literal, Twice, Undefined}
use Rattle.aiger_out.specs.declared.form.Header.{Header}
use Rattle.aiger_out.specs.declared.form.AndLine.{AndLine}
use Rattle.aiger_out.specs.declared.form.AagLine.{AagLine}
use Rattle.aiger_out.specs.declared.form.AagLine.TheVariants.{Input, Output, And, Other}
use Rattle.aiger_out.specs.Lines.{ended, unended, number_at, one_number, three_numbers, header_of}

-- ---- the lines by their places, from 0 on: the header, inputs, outputs, ANDs, and the rest

abbrev pub outputs_from : Header → ℕ
outputs_from h = 1 + h.inputs

abbrev pub ands_from : Header → ℕ
ands_from h = 1 + h.inputs + h.outputs

abbrev pub rest_from : Header → ℕ
rest_from h = 1 + h.inputs + h.outputs + h.ands

abbrev pub input_line : Option ℕ → AagLine
input_line None = Other
input_line (Some x) = Input x

abbrev pub output_line : Option ℕ → AagLine
output_line None = Other
output_line (Some x) = Output x

abbrev pub and_line : Option AndLine → AagLine
and_line None = Other
and_line (Some a) = And a

-- the contents of a line at a place, if it has the form that is required there
abbrev pub line_read : Header → ℕ → List ℕ → AagLine
line_read h j line =
    if j == 0 then Other
    else (if nat_lt j (outputs_from h) then input_line (one_number line)
    else (if nat_lt j (ands_from h) then output_line (one_number line)
    else (if nat_lt j (rest_from h) then and_line (three_numbers line)
    else Other)))

-- the contents of the line at a place; `Other` too if there is none
unfoldable pub line_at : Header → List (List ℕ) → ℕ → AagLine
line_at h lines j = option_map_or (line_read h j) (slice_get lines j) Other

-- ---- the variables that lines define

abbrev pub greatest_literal : Header → ℕ
greatest_literal h = 2 * h.most + 1

-- a literal that may define a variable: it is even, from 2 on, and in range
abbrev pub may_be_defined : Header → ℕ → Bool
may_be_defined h x = x % 2 == 0 && nat_le 2 x && nat_le x (greatest_literal h)

-- a line defines a variable, whatever else is wrong with it
abbrev pub defines : Header → AagLine → ℕ → Bool
defines h (Input x) v = may_be_defined h x && x / 2 == v
defines h (And a) v = may_be_defined h a.lhs && a.lhs / 2 == v
defines h (Output x) v = false
defines h Other v = false

-- a line before a place defines a variable; `at` is the line at each place, and variable 0 is the constant
unfoldable pub is_defined : Header → (ℕ → AagLine) → ℕ → ℕ → Bool
is_defined h at zero v = v == 0
is_defined h at (suc j) v = is_defined h at j v || defines h (at j) v

-- ---- the fault of a line by itself: the first in the order of the errors

abbrev pub first_of : Bool → AagWhy → Option AagWhy → Option AagWhy
first_of holds why rest = if holds then Some why else rest

abbrev pub header_fault : ℕ → Header → Option AagWhy
header_fault limit h =
    first_of (not (h.latches == 0)) Latches
    (first_of (nat_lt limit h.most || nat_lt limit h.outputs || nat_lt h.most (h.inputs + h.ands)) TooMany None)

-- an operand comes after the line that defines it; an output may come before
abbrev pub line_fault : Header → (ℕ → AagLine) → ℕ → AagLine → Option AagWhy
line_fault h at j Other = Some Syntax
line_fault h at j (Input x) =
    first_of (not (may_be_defined h x)) Literal
    (first_of (is_defined h at j (x / 2)) Twice None)
line_fault h at j (Output x) =
    first_of (nat_lt (greatest_literal h) x) Literal
    (first_of (not (is_defined h at (rest_from h) (x / 2))) Undefined None)
line_fault h at j (And a) =
    first_of (not (may_be_defined h a.lhs) || nat_lt (greatest_literal h) a.rhs0 || nat_lt (greatest_literal h) a.rhs1) Literal
    (first_of (is_defined h at j (a.lhs / 2)) Twice
    (first_of (not (is_defined h at j (a.rhs0 / 2)) || not (is_defined h at j (a.rhs1 / 2))) Undefined None))

-- a symbol: `i` or `o`, a number below the number of inputs or outputs, a blank, and a name of at least one byte
abbrev pub is_name : Option (List ℕ) → Bool
is_name None = false
is_name (Some []) = false
is_name (Some (byte ∷ bytes)) = true

abbrev pub names_below : ℕ → Option (ℕ × List ℕ) → Bool
names_below count None = false
names_below count (Some p) = nat_lt p.0 count && is_name (after_byte 32 p.1)

abbrev pub symbol_behind : ℕ → Option (List ℕ) → Bool
symbol_behind count None = false
symbol_behind count (Some text) = names_below count (number_at text)

abbrev pub is_symbol : Header → List ℕ → Bool
is_symbol h line = symbol_behind h.inputs (after_byte 105 line) || symbol_behind h.outputs (after_byte 111 line)

-- the line `c`, which anything may follow
abbrev pub is_comment : List ℕ → Bool
is_comment line = bytes_eq line (codes "c")

-- one of the given number of lines from a place on is the line `c`
unfoldable pub comment_within : List (List ℕ) → ℕ → ℕ → Bool
comment_within lines from zero = false
comment_within lines from (suc n) = comment_within lines from n || option_map_or is_comment (slice_get lines (from + n)) false

-- symbols follow the AND lines, up to a `c` or the end of the text
abbrev pub tail_fault : Header → Option (List ℕ) → Bool → Option AagWhy
tail_fault h None unended = if unended then Some Syntax else None
tail_fault h (Some line) unended = if is_symbol h line || is_comment line then None else Some Syntax

-- the fault of the line at a place after the header, given the lines of a text and whether anything follows the last
-- line feed
unfoldable pub fault_at : Header → List (List ℕ) → Bool → ℕ → Option AagWhy
fault_at h lines more j =
    if nat_lt j (rest_from h) then line_fault h (line_at h lines) j (line_at h lines j)
    else (if comment_within lines (rest_from h) (j - rest_from h) then None
    else tail_fault h (slice_get lines j) (j == length lines && more))

-- the bounds on which the reader's arithmetic relies
pub record IsBounded (h : Header) : Type 0 where
  pub most : h.most ≤ 1000000
  pub outputs : h.outputs ≤ 1000000
  pub defined : h.inputs + h.ands ≤ h.most

-- ---- a text

-- something follows the last line feed
abbrev pub has_more : List ℕ → Bool
has_more text = nat_lt 0 (length (unended text))

abbrev pub text_fault : List ℕ → Header → ℕ → Option AagWhy
text_fault text h j = fault_at h (ended text) (has_more text) j

abbrev pub text_header : List ℕ → Option Header
text_header text = option_and_then header_of (slice_get (ended text) 0)

-- the text has the form, with this header: no line has a fault, where M and O are at most a limit
pub record IsAag (limit : ℕ) (text : List ℕ) (h : Header) : Type 0 where
  pub header : text_header text ≡ Some h
  pub fine : header_fault limit h ≡ None
  pub lines : (j : ℕ) → 1 ≤ j → text_fault text h j ≡ None

-- the first line with a fault, and the first of its faults; lines count from 1, and the header is line 1
abbrev pub IsFaultBehind : ℕ → List ℕ → ℕ → AagWhy → Option Header → Type 0
IsFaultBehind limit text line why None = (line ≡ 1) × (why ≡ Syntax)
IsFaultBehind limit text line why (Some h) =
    ((line ≡ 1) × (header_fault limit h ≡ Some why))
    ⊎ ((header_fault limit h ≡ None) × (2 ≤ line) × (text_fault text h (line - 1) ≡ Some why)
    × ((j : ℕ) → 1 ≤ j → j < line - 1 → text_fault text h j ≡ None))

abbrev pub IsFault : ℕ → List ℕ → ℕ → AagWhy → Type 0
IsFault limit text line why = IsFaultBehind limit text line why (text_header text)
