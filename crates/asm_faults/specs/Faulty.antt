-- The lines of a source that are faulty by themselves: the assembler reports only the first fault.
use Rattle.std.specs.Prelude.{ℕ, ◌+◌, List, [], ◌∷◌, Result, Ok, Err}
use Rattle.y86_base.specs.declared.parts.Variant.{Variant}
use Rattle.yas_asm.specs.declared.fault.AsmWhy.{AsmWhy}
use Rattle.yas_asm.specs.declared.statement.Parsed.{Parsed}
use Rattle.yas_asm.specs.Grammar.{read_line}
use Rattle.asm_faults.specs.declared.lines.LineFault.{LineFault}

-- a line's fault, if it has one, before the faults of later lines
abbrev pub with_fault : ℕ → Result Parsed AsmWhy → List LineFault → List LineFault
with_fault number (Ok parsed) others = others
with_fault number (Err why) others = record { line = number; why = why } ∷ others

-- the lines that the line reader refuses, with their numbers; `number` is that of the first line
unfoldable pub faulty : Variant → ℕ → List (List ℕ) → List LineFault
faulty variant number [] = []
faulty variant number (line ∷ lines) = with_fault number (read_line variant line) (faulty variant (number + 1) lines)
