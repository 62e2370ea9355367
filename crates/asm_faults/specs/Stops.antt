-- Where a line stops being well-formed, and what the grammar requires there.
use Rattle.std.specs.Prelude.{◌≡◌, ◌↔◌, ℕ, Bool, true, if◌then◌else◌, List, [], ◌∷◌, Option, Some, None, is_some}
use Rattle.y86_base.specs.declared.parts.Variant.{Variant}
use Rattle.yas_asm.specs.declared.statement.Operation.{Operation}
use Rattle.yas_asm.specs.declared.statement.Directive.{Directive}
use Rattle.yas_asm.specs.declared.statement.Width.TheVariants.{Eight}
use Rattle.yas_asm.specs.Tokens.{sign, name}
use Rattle.yas_asm.specs.Tables.{register, directive, mnemonic}
use Rattle.yas_asm.specs.Comments.{ends}
use Rattle.yas_asm.specs.Grammar.{operand, displacement, natural, is_zero, label, line}
use Rattle.asm_faults.specs.declared.parts.Part.{Part}
use Rattle.asm_faults.specs.declared.parts.Part.TheVariants.{Statement, Register, Value, Displacement, Comma, OpenParenthesis, CloseParenthesis, Natural, Positive, LineEnd}
use Rattle.asm_faults.specs.Parts.{parts_of_shape, parts_of_directive}

-- what follows a thing that was read
abbrev pub behind : {A : Type 0} → Option (A × List ℕ) → Option (List ℕ)
behind None = None
behind (Some x) = Some x.1

-- what follows a number that is at least 1
abbrev pub behind_positive : Option (Option ℕ × List ℕ) → Option (List ℕ)
behind_positive None = None
behind_positive (Some n) = if is_zero n.0 then None else Some n.1

-- the bytes, unchanged, if the line ends
abbrev pub behind_end : Bool → List ℕ → Option (List ℕ)
behind_end ended bytes = if ended then Some bytes else None

-- what follows a part, or None if something else is there
unfoldable pub behind_part : Part → List ℕ → Option (List ℕ)
behind_part Statement bytes = None
behind_part Register bytes = behind (register bytes)
behind_part Value bytes = behind (operand Eight bytes)
behind_part Displacement bytes = behind (displacement bytes)
behind_part Comma bytes = sign 44 bytes
behind_part OpenParenthesis bytes = sign 40 bytes
behind_part CloseParenthesis bytes = sign 41 bytes
behind_part Natural bytes = behind (natural bytes)
behind_part Positive bytes = behind_positive (natural bytes)
behind_part LineEnd bytes = behind_end (ends bytes) bytes

-- the first part that is not where it should be, and the bytes there
abbrev pub stop_at : Part → List ℕ → (List ℕ → Option (Part × List ℕ)) → Option (List ℕ) → Option (Part × List ℕ)
stop_at part bytes go_on None = Some (part, bytes)
stop_at part bytes go_on (Some rest) = go_on rest

unfoldable pub stop_of : List Part → List ℕ → Option (Part × List ℕ)
stop_of [] bytes = None
stop_of (part ∷ parts) bytes = stop_at part bytes (stop_of parts) (behind_part part bytes)

-- after the name of a mnemonic
abbrev pub operands_stop : List ℕ → List ℕ → Option Operation → Option (Part × List ℕ)
operands_stop bytes rest None = Some (Statement, bytes)
operands_stop bytes rest (Some operation) = stop_of (parts_of_shape operation.shape) rest

abbrev pub instruction_stop : Variant → List ℕ → Option (List ℕ × List ℕ) → Option (Part × List ℕ)
instruction_stop variant bytes None = Some (Statement, bytes)
instruction_stop variant bytes (Some word) = operands_stop bytes word.1 (mnemonic variant word.0)

abbrev pub statement_from : Variant → List ℕ → Option (Directive × List ℕ) → Option (Part × List ℕ)
statement_from variant bytes (Some d) = stop_of (parts_of_directive d.0) d.1
statement_from variant bytes None = instruction_stop variant bytes (name bytes)

unfoldable pub statement_stop : Variant → List ℕ → Option (Part × List ℕ)
statement_stop variant bytes = if ends bytes then None else statement_from variant bytes (directive bytes)

-- the same for a whole line, which may begin with a label
unfoldable pub line_stop : Variant → List ℕ → Option (Part × List ℕ)
line_stop variant bytes = statement_stop variant (label bytes).1

-- a line stops somewhere exactly if it is not well-formed
abbrev pub StopsWhereFaulty : Type 0
StopsWhereFaulty = (variant : Variant) (bytes : List ℕ) → (line_stop variant bytes ≡ None) ↔ (is_some (line variant bytes) ≡ true)
