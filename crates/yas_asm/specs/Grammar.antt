-- The grammar of a line: an optional label, an optional statement, an optional comment, as in the programs of CS:APP
-- 3e, section 4.1.5. The operands of each instruction are those of figure 4.2. Each reader returns what it read with
-- the bytes after it, or None if the bytes are not of its form.
use Rattle.std.specs.Prelude.{ℕ, ◌-◌, ◌*◌, ◌^◌, Bool, true, false, not, ◌&&◌, ◌==◌, if◌then◌else◌, List, Option, Some, None, Result, Ok, Err, option_and_then}
use Rattle.std.specs.Option.{option_map_or}
use Rattle.y86_base.specs.declared.parts.Variant.{Variant}
use Rattle.y86_base.specs.declared.number.Number.{Number}
use Rattle.y86_base.specs.Number.{word_within}
use Rattle.yas_asm.specs.declared.fault.AsmWhy.{AsmWhy}
use Rattle.yas_asm.specs.declared.fault.AsmWhy.TheVariants.{Syntax, BadByte, NumberTooWide}
use Rattle.yas_asm.specs.declared.statement.Width.{Width}
use Rattle.yas_asm.specs.declared.statement.Width.TheVariants.{One, Two, Four, Eight}
use Rattle.yas_asm.specs.declared.statement.Directive.{Directive}
use Rattle.yas_asm.specs.declared.statement.Directive.TheVariants as directives
use Rattle.yas_asm.specs.declared.statement.Shape.{Shape}
use Rattle.yas_asm.specs.declared.statement.Shape.TheVariants as shapes
use Rattle.yas_asm.specs.declared.statement.Operation.{Operation}
use Rattle.yas_asm.specs.declared.statement.Operand.{Operand}
use Rattle.yas_asm.specs.declared.statement.Operand.TheVariants as operands
use Rattle.yas_asm.specs.declared.statement.Statement.{Statement}
use Rattle.yas_asm.specs.declared.statement.Statement.TheVariants as statements
use Rattle.yas_asm.specs.declared.statement.Parsed.{Parsed}
use Rattle.yas_asm.specs.Tokens.{sign, after_sign, name, number, next_is}
use Rattle.yas_asm.specs.Comments.{ends, bad_outside}
use Rattle.yas_asm.specs.Tables.{register, directive, mnemonic}

infixl 10 ◌>>=◌
abbrev pub ◌>>=◌ : {A B : Type 0} → Option A → (A → Option B) → Option B
o >>= f = option_and_then f o

-- the number of bytes of a width
abbrev pub bytes_of : Width → ℕ
bytes_of One = 1
bytes_of Two = 2
bytes_of Four = 4
bytes_of Eight = 8

abbrev pub word_or_wide : Option ℕ → Operand
word_or_wide None = operands.Wide
word_or_wide (Some n) = operands.Word n

-- a written number as a word, if it is between -2^(8w-1) and 2^(8w)-1 for w bytes
unfoldable pub word_of : Width → Number → Operand
word_of width number = word_or_wide (word_within (2 ^ (8 * bytes_of width - 1)) (2 ^ (8 * bytes_of width) - 1) number)

-- V: a number or a label, with an optional `$` in front
abbrev pub operand_from : Width → Option (Number × List ℕ) → Option (List ℕ × List ℕ) → Option (Operand × List ℕ)
operand_from width (Some n) text = Some (word_of width n.0, n.1)
operand_from width None (Some text) = Some (operands.Label text.0, text.1)
operand_from width None None = None

unfoldable pub operand : Width → List ℕ → Option (Operand × List ℕ)
operand width bytes = operand_from width (number (after_sign 36 bytes)) (name (after_sign 36 bytes))

-- D: like V; it may be missing before `(`, and is then 0
unfoldable pub displacement : List ℕ → Option (Operand × List ℕ)
displacement bytes = if next_is 40 bytes then Some (operands.Word 0, bytes) else operand Eight bytes

-- D(rB)
unfoldable pub memory : List ℕ → Option ((Operand × ℕ) × List ℕ)
memory bytes = do
  d ← displacement bytes
  opened ← sign 40 d.1
  base ← register opened
  close ← sign 41 base.1
  Some ((d.0, base.0), close)

-- N: a number that is not negative
abbrev pub is_zero : Option ℕ → Bool
is_zero None = false
is_zero (Some n) = n == 0

unfoldable pub natural : List ℕ → Option (Option ℕ × List ℕ)
natural bytes = do
  n ← number bytes
  if n.0.negative && not (is_zero n.0.magnitude) then None else Some (n.0.magnitude, n.1)

abbrev pub position_at : Option ℕ → Statement
position_at None = statements.Wide
position_at (Some n) = statements.Position n

abbrev pub align_at : Option ℕ → Statement
align_at None = statements.Wide
align_at (Some n) = statements.Align n

-- the operand of a directive
unfoldable pub position_operand : List ℕ → Option (Statement × List ℕ)
position_operand bytes = do
  n ← natural bytes
  Some (position_at n.0, n.1)

unfoldable pub align_operand : List ℕ → Option (Statement × List ℕ)
align_operand bytes = do
  n ← natural bytes
  if is_zero n.0 then None else Some (align_at n.0, n.1)

unfoldable pub data_operand : Width → List ℕ → Option (Statement × List ℕ)
data_operand width bytes = do
  v ← operand width bytes
  Some (statements.Data width v.0, v.1)

unfoldable pub directive_operand : Directive → List ℕ → Option (Statement × List ℕ)
directive_operand directives.Position bytes = position_operand bytes
directive_operand directives.Align bytes = align_operand bytes
directive_operand (directives.Data width) bytes = data_operand width bytes

-- an instruction; 15 marks a register field that is not used
abbrev pub instruction : Operation → ℕ → ℕ → Operand → Statement
instruction operation a b constant = statements.Instruction operation.icode operation.ifun a b constant

-- rA,rB
unfoldable pub two_registers : Operation → List ℕ → Option (Statement × List ℕ)
two_registers operation bytes = do
  a ← register bytes
  comma ← sign 44 a.1
  b ← register comma
  Some (instruction operation a.0 b.0 (operands.Word 0), b.1)

-- V,rB
unfoldable pub immediate : Operation → List ℕ → Option (Statement × List ℕ)
immediate operation bytes = do
  v ← operand Eight bytes
  comma ← sign 44 v.1
  b ← register comma
  Some (instruction operation 15 b.0 v.0, b.1)

-- rA,D(rB)
unfoldable pub store : Operation → List ℕ → Option (Statement × List ℕ)
store operation bytes = do
  a ← register bytes
  comma ← sign 44 a.1
  m ← memory comma
  Some (instruction operation a.0 m.0.1 m.0.0, m.1)

-- D(rB),rA
unfoldable pub load : Operation → List ℕ → Option (Statement × List ℕ)
load operation bytes = do
  m ← memory bytes
  comma ← sign 44 m.1
  a ← register comma
  Some (instruction operation a.0 m.0.1 m.0.0, a.1)

-- V
unfoldable pub target : Operation → List ℕ → Option (Statement × List ℕ)
target operation bytes = do
  v ← operand Eight bytes
  Some (instruction operation 15 15 v.0, v.1)

-- rA
unfoldable pub single : Operation → List ℕ → Option (Statement × List ℕ)
single operation bytes = do
  a ← register bytes
  Some (instruction operation a.0 15 (operands.Word 0), a.1)

abbrev pub operands_as : Shape → Operation → List ℕ → Option (Statement × List ℕ)
operands_as shapes.Alone operation bytes = Some (instruction operation 15 15 (operands.Word 0), bytes)
operands_as shapes.Registers operation bytes = two_registers operation bytes
operands_as shapes.Immediate operation bytes = immediate operation bytes
operands_as shapes.Store operation bytes = store operation bytes
operands_as shapes.Load operation bytes = load operation bytes
operands_as shapes.Target operation bytes = target operation bytes
operands_as shapes.Single operation bytes = single operation bytes

unfoldable pub operands_of : Operation → List ℕ → Option (Statement × List ℕ)
operands_of operation bytes = operands_as operation.shape operation bytes

-- a statement is a directive or a mnemonic with its operands
unfoldable pub instruction_text : Variant → List ℕ → Option (Statement × List ℕ)
instruction_text variant bytes = do
  word ← name bytes
  operation ← mnemonic variant word.0
  operands_of operation word.1

abbrev pub statement_from : Variant → List ℕ → Option (Directive × List ℕ) → Option (Statement × List ℕ)
statement_from variant bytes (Some d) = directive_operand d.0 d.1
statement_from variant bytes None = instruction_text variant bytes

unfoldable pub statement : Variant → List ℕ → Option (Statement × List ℕ)
statement variant bytes = statement_from variant bytes (directive bytes)

-- an optional label is a name followed by `:`
abbrev pub label_with : List ℕ → List ℕ → Option (List ℕ) → Option (List ℕ) × List ℕ
label_with bytes word None = (None, bytes)
label_with bytes word (Some behind) = (Some word, behind)

abbrev pub label_from : List ℕ → Option (List ℕ × List ℕ) → Option (List ℕ) × List ℕ
label_from bytes None = (None, bytes)
label_from bytes (Some word) = label_with bytes word.0 (sign 58 word.1)

unfoldable pub label : List ℕ → Option (List ℕ) × List ℕ
label bytes = label_from bytes (name bytes)

-- an optional statement up to the end of the line
unfoldable pub last_statement : Variant → List ℕ → Option Statement
last_statement variant bytes =
    if ends bytes then Some statements.Nothing else (statement variant bytes >>= (λ s. if ends s.1 then Some s.0 else None))

-- a well-formed line
unfoldable pub line : Variant → List ℕ → Option Parsed
line variant bytes = do
  s ← last_statement variant (label bytes).1
  Some (record { label = (label bytes).0; statement = s })

-- the number or label of a statement, and the width that it must fit
abbrev pub operand_of : Statement → Option (Width × Operand)
operand_of (statements.Instruction icode ifun a b constant) = Some (Eight, constant)
operand_of (statements.Data width value) = Some (width, value)
operand_of _ = None

-- a written number is outside its bounds
abbrev pub is_wide_operand : Operand → Bool
is_wide_operand operands.Wide = true
is_wide_operand _ = false

unfoldable pub is_wide : Statement → Bool
is_wide statements.Wide = true
is_wide statement = option_map_or (λ o. is_wide_operand o.1) (operand_of statement) false

abbrev pub checked : Option Parsed → Result Parsed AsmWhy
checked None = Err Syntax
checked (Some parsed) = if is_wide parsed.statement then Err NumberTooWide else Ok parsed

-- the content of a line, or the fault that it has of its own, without regard to other lines
unfoldable pub read_line : Variant → List ℕ → Result Parsed AsmWhy
read_line variant bytes = if bad_outside 0 bytes then Err BadByte else checked (line variant bytes)
