-- The definitions of the five lines with the line as an argument, because the code goes through the lines one by one.
use Rattle.std.specs.Prelude.{ℕ, Bool, List, length}
use Rattle.y86_base.specs.declared.parts.Variant.{Variant}
use Rattle.y86_isa.specs.declared.columns.Row.{Row}
use Rattle.y86_isa.specs.Table.{rows, row}
use Rattle.pipe_fields.specs.declared.lines.StageLine.{StageLine}
use Rattle.pipe_fields.specs.declared.lines.StageLine.TheVariants.{F, D, E, M, W}
use Rattle.pipe_fields.specs.Allowed.{fetch_row_allowed, decode_row_allowed, execute_row_allowed, memory_row_allowed, write_row_allowed}
use Rattle.pipe_fields.specs.Layout.{Field, Fields, fetch_fields, decode_fields, execute_fields, memory_fields, write_fields}

abbrev pub line_fields : StageLine → List Field
line_fields F = fetch_fields
line_fields D = decode_fields
line_fields E = execute_fields
line_fields M = memory_fields
line_fields W = write_fields

abbrev pub icode_in : StageLine → Fields → ℕ
icode_in F c = c.f.icode
icode_in D c = c.d.icode
icode_in E c = c.e.icode
icode_in M c = c.m.icode
icode_in W c = c.w.icode

-- the line is one of an instruction of an icode, with its row
abbrev pub line_row_allowed : StageLine → ℕ → ℕ → Row → Fields → Bool
line_row_allowed F count icode r c = fetch_row_allowed count icode r c.f
line_row_allowed D count icode r c = decode_row_allowed count icode r c.d
line_row_allowed E count icode r c = execute_row_allowed count icode r c.e
line_row_allowed M count icode r c = memory_row_allowed count icode r c.m
line_row_allowed W count icode r c = write_row_allowed count icode r c.w

unfoldable pub line_icode_allowed : Variant → StageLine → ℕ → Fields → Bool
line_icode_allowed v line icode c = line_row_allowed line (length (rows v)) icode (row v icode) c
