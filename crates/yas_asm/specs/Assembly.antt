-- What a source assembles to: a listing like that of CS:APP 3e, figure 4.8, or its first fault. The lines before a line
-- determine its address. The lines at their addresses determine the labels, a map from names to addresses. Lines and
-- labels determine the bytes of each line, and its faults. Laws states what a user may conclude from these definitions.
use Rattle.std.specs.Prelude.{ℕ, ◌+◌, ◌-◌, ◌*◌, ◌^◌, ◌%◌, Bool, false, not, ◌&&◌, ◌||◌, ◌==◌, nat_le, nat_lt, nat_eq, if◌then◌else◌, List, [], ◌∷◌, ◌++◌, length, take, fold, Option, Some, None, is_some, is_none, unwrap_or, Result, Ok, Err}
use Rattle.std.specs.List.{list_any, range_with_len, flat_map}
use Rattle.std.specs.Int.{to_le_bytes, w64}
use Rattle.std.specs.Option.{option_map_or}
use Rattle.y86_base.specs.declared.parts.Variant.{Variant}
use Rattle.y86_isa.specs.Table.{row}
use Rattle.yas_asm.specs.declared.fault.AsmWhy.{AsmWhy}
use Rattle.yas_asm.specs.declared.fault.AsmWhy.TheVariants.{NumberTooWide, LabelTwice, LabelUnknown, OutsideMemory, Overlap, LabelLimit}
use Rattle.yas_asm.specs.declared.fault.AsmFault.{AsmFault}
use Rattle.yas_asm.specs.declared.listing.Line.{Line}
use Rattle.yas_asm.specs.declared.statement.Width.{Width}
use Rattle.yas_asm.specs.declared.statement.Operand.{Operand}
use Rattle.yas_asm.specs.declared.statement.Operand.TheVariants.{Word, Label, Wide}
use Rattle.yas_asm.specs.declared.statement.Statement.{Statement}
use Rattle.yas_asm.specs.declared.statement.Statement.TheVariants as statements
use Rattle.yas_asm.specs.declared.statement.Parsed.{Parsed}
use Rattle.y86_base.specs.Text.{lines}
use Rattle.y86_base.specs.Keyword.{meaning_of}
use Rattle.yas_asm.specs.Grammar.{bytes_of, operand_of, read_line}
use Rattle.y86_isa.specs.Encoding.{encoded}

-- addresses

-- the number of bytes that a statement emits
unfoldable pub width_of : Variant → Statement → ℕ
width_of variant (statements.Instruction icode ifun a b constant) = (row variant icode).length
width_of variant (statements.Data width value) = bytes_of width
width_of variant _ = 0

-- the least multiple of a number that is not below an address
abbrev pub next_multiple : ℕ → ℕ → ℕ
next_multiple n address = if address % n == 0 then address else address + (n - address % n)

-- the address to which a statement at an address leads, whatever the size
unfoldable pub destination : Variant → ℕ → Statement → ℕ
destination variant address (statements.Position n) = n
destination variant address (statements.Align n) = next_multiple n address
destination variant address (statements.Instruction icode ifun a b constant) = address + (row variant icode).length
destination variant address (statements.Data width value) = address + bytes_of width
destination variant address _ = address

-- the address after a statement; None if it is past the size
unfoldable pub place : Variant → ℕ → ℕ → Statement → Option ℕ
place variant size address statement =
    if nat_le (destination variant address statement) size then Some (destination variant address statement) else None

-- the address after a line; a line with a fault of its own, or one that leads past the size, leaves the address
-- unchanged
unfoldable pub address_after : Variant → ℕ → ℕ → Result Parsed AsmWhy → ℕ
address_after variant size address (Err why) = address
address_after variant size address (Ok parsed) = unwrap_or (place variant size address parsed.statement) address

-- a line of the source at its address
pub record Placed : Type 0 where
  pub text : List ℕ
  pub address : ℕ
  pub read : Result Parsed AsmWhy

-- the lines from an address on; `LinesFollow` of Laws states the same line by line
unfoldable pub placed : Variant → ℕ → ℕ → List (List ℕ) → List Placed
placed variant size address [] = []
placed variant size address (text ∷ texts) =
    record { text = text; address = address; read = read_line variant text }
    ∷ placed variant size (address_after variant size address (read_line variant text)) texts

-- labels

-- how many labels there may be
abbrev pub label_limit : ℕ
label_limit = 65535

abbrev pub label_of : Result Parsed AsmWhy → Option (List ℕ)
label_of (Err why) = None
label_of (Ok parsed) = parsed.label

-- the labels with another name: the first definition of a name counts, and only the first 65,535 names are defined
unfoldable pub with_name : List (List ℕ × ℕ) → List ℕ → ℕ → List (List ℕ × ℕ)
with_name table name address =
    if is_some (meaning_of table name) || nat_le label_limit (length table) then table else table ++ (name, address) ∷ []

abbrev pub with_label : List (List ℕ × ℕ) → ℕ → Option (List ℕ) → List (List ℕ × ℕ)
with_label table address None = table
with_label table address (Some name) = with_name table name address

-- the labels that these lines define, with their addresses; a label is the address before its line's statement
unfoldable pub labels : List Placed → List (List ℕ × ℕ)
labels placed = fold (λ table line. with_label table line.address (label_of line.read)) [] placed

-- bytes

-- the number that an operand means; 0 for a label that is not defined
unfoldable pub value_of : List (List ℕ × ℕ) → Operand → ℕ
value_of table (Word n) = n
value_of table (Label name) = unwrap_or (meaning_of table name) 0
value_of table Wide = 0

-- the bytes that a statement emits: an instruction as figure 4.2 of CS:APP 3e encodes it, and data with the lowest byte first
unfoldable pub bytes_at : List (List ℕ × ℕ) → Statement → List ℕ
bytes_at table (statements.Instruction icode ifun a b constant) =
    encoded (record { icode = icode; ifun = ifun; r_a = a; r_b = b; val_c = value_of table constant })
bytes_at table (statements.Data width value) = take (bytes_of width) (to_le_bytes w64 (value_of table value))
bytes_at table _ = []

-- the addresses at which a statement emits bytes: none if it goes past the size
unfoldable pub emitted : Variant → ℕ → ℕ → Statement → List ℕ
emitted variant size address statement =
    if is_some (place variant size address statement) then range_with_len address (width_of variant statement) else []

-- the addresses at which a line emits bytes: none if it has a fault of its own
abbrev pub addresses : Variant → ℕ → ℕ → Result Parsed AsmWhy → List ℕ
addresses variant size address (Err why) = []
addresses variant size address (Ok parsed) = emitted variant size address parsed.statement

-- the addresses to which these lines emit bytes
unfoldable pub filled : Variant → ℕ → List Placed → List ℕ
filled variant size placed = flat_map (λ line. addresses variant size line.address line.read) placed

-- faults

-- a label whose value does not fit a width
abbrev pub is_wide_label : List (List ℕ × ℕ) → Width → Operand → Bool
is_wide_label table width (Label name) = not (nat_lt (unwrap_or (meaning_of table name) 0) (2 ^ (8 * bytes_of width)))
is_wide_label table width _ = false

abbrev pub is_unknown_label : List (List ℕ × ℕ) → Operand → Bool
is_unknown_label table (Label name) = is_none (meaning_of table name)
is_unknown_label table _ = false

-- a statement names a label whose value is too wide for it
unfoldable pub names_wide : List (List ℕ × ℕ) → Statement → Bool
names_wide table statement = option_map_or (λ o. is_wide_label table o.0 o.1) (operand_of statement) false

-- a statement names a label that is not defined
unfoldable pub names_unknown : List (List ℕ × ℕ) → Statement → Bool
names_unknown table statement = option_map_or (λ o. is_unknown_label table o.1) (operand_of statement) false

-- a label is already defined
abbrev pub is_defined : List (List ℕ × ℕ) → Option (List ℕ) → Bool
is_defined known None = false
is_defined known (Some name) = is_some (meaning_of known name)

-- a label is beyond the largest number of labels
abbrev pub is_past_limit : List (List ℕ × ℕ) → Option (List ℕ) → Bool
is_past_limit known None = false
is_past_limit known (Some name) = is_none (meaning_of known name) && nat_le label_limit (length known)

-- at least one of the n bytes from an address on is at an address that has a byte
unfoldable pub overlaps : List ℕ → ℕ → ℕ → Bool
overlaps used address n = list_any (λ at. list_any (nat_eq at) used) (range_with_len address n)

-- the first reason that applies
abbrev pub first_reason : List (Bool × AsmWhy) → Option AsmWhy
first_reason [] = None
first_reason (reason ∷ reasons) = if reason.0 then Some reason.1 else first_reason reasons

-- the first fault of a well-formed line. `table` is the labels of the source, `known` those of the lines before, and
-- `used` the addresses that have a byte from the lines before
unfoldable pub statement_fault : Variant → ℕ → List (List ℕ × ℕ) → List (List ℕ × ℕ) → List ℕ → ℕ → Parsed → Option AsmWhy
statement_fault variant size table known used address parsed =
    first_reason (
    (names_wide table parsed.statement, NumberTooWide)
    ∷ (is_defined known parsed.label, LabelTwice)
    ∷ (names_unknown table parsed.statement, LabelUnknown)
    ∷ (is_none (place variant size address parsed.statement), OutsideMemory)
    ∷ (overlaps used address (width_of variant parsed.statement), Overlap)
    ∷ (is_past_limit known parsed.label, LabelLimit)
    ∷ []
    )

unfoldable pub line_fault : Variant → ℕ → List (List ℕ × ℕ) → List (List ℕ × ℕ) → List ℕ → ℕ → Result Parsed AsmWhy → Option AsmWhy
line_fault variant size table known used address (Err why) = Some why
line_fault variant size table known used address (Ok parsed) = statement_fault variant size table known used address parsed

-- the first fault of a line at its address; `before` is the lines before it
abbrev pub fault_behind : Variant → ℕ → List (List ℕ × ℕ) → List Placed → Placed → Option AsmWhy
fault_behind variant size table before line =
    line_fault variant size table (labels before) (filled variant size before) line.address line.read

abbrev pub fault_or : Option AsmWhy → ℕ → Option AsmFault → Option AsmFault
fault_or None number later = later
fault_or (Some why) number later = Some (record { line = number; why = why })

-- the first line with a fault, and its first fault; `before` is the lines before these. Laws says when there is none,
-- and what it reports
unfoldable pub first_fault : Variant → ℕ → List (List ℕ × ℕ) → List Placed → List Placed → Option AsmFault
first_fault variant size table before [] = None
first_fault variant size table before (line ∷ rest) =
    fault_or (fault_behind variant size table before line) (length before + 1) (first_fault variant size table (before ++ line ∷ []) rest)

-- the listing

-- the address that a line shows: the one before it, or the one that `.pos` or `.align` sets; none if it has neither
-- label nor statement
abbrev pub shown_at : Option (List ℕ) → ℕ → Option ℕ → Statement → Option ℕ
shown_at label address next (statements.Position n) = next
shown_at label address next (statements.Align n) = next
shown_at label address next statements.Nothing = if is_some label then Some address else None
shown_at label address next statements.Wide = None
shown_at label address next _ = Some address

-- a line at an address in the listing; its text is from `from` to `to` in the source
unfoldable pub listed : Variant → ℕ → List (List ℕ × ℕ) → ℕ → ℕ → ℕ → Result Parsed AsmWhy → Line
listed variant size table from to address (Err why) = record { addr = None; bytes = record { items = [] }; from = from; to = to }
listed variant size table from to address (Ok parsed) =
    record {
      addr = shown_at parsed.label address (place variant size address parsed.statement) parsed.statement;
      bytes = record { items = bytes_at table parsed.statement };
      from = from;
      to = to;
    }

-- the listing of lines of which the first begins at `from` in the source; a line feed follows each
unfoldable pub listing : Variant → ℕ → List (List ℕ × ℕ) → ℕ → List Placed → List Line
listing variant size table from [] = []
listing variant size table from (line ∷ rest) =
    listed variant size table from (from + length line.text) line.address line.read
    ∷ listing variant size table (from + length line.text + 1) rest

abbrev pub listing_unless : Option AsmFault → List Line → Result (List Line) AsmFault
listing_unless None lines = Ok lines
listing_unless (Some fault) lines = Err fault

-- the result for these lines with a table of labels: their listing, or the first line with a fault
unfoldable pub assembled_with : Variant → ℕ → List (List ℕ × ℕ) → List Placed → Result (List Line) AsmFault
assembled_with variant size table all = listing_unless (first_fault variant size table [] all) (listing variant size table 0 all)

-- the lines of a source at their addresses
unfoldable pub source_lines : Variant → ℕ → List ℕ → List Placed
source_lines variant size source = placed variant size 0 (lines source)

-- what a source assembles to in a memory of the size, with the labels that it defines
unfoldable pub assembled : Variant → List ℕ → ℕ → Result (List Line) AsmFault
assembled variant source size = assembled_with variant size (labels (source_lines variant size source)) (source_lines variant size source)
