-- The fixed words of the language: registers, directives and mnemonics. No directive is a prefix of another, nor is a
-- register.
use Rattle.std.specs.Prelude.{ℕ, List, [], ◌∷◌, ◌++◌, Option, codes}
use Rattle.y86_base.specs.declared.parts.Variant.{Variant}
use Rattle.y86_base.specs.declared.parts.Variant.TheVariants.{Base, Full}
use Rattle.yas_asm.specs.declared.statement.Width.TheVariants.{One, Two, Four, Eight}
use Rattle.yas_asm.specs.declared.statement.Directive.{Directive}
use Rattle.yas_asm.specs.declared.statement.Directive.TheVariants.{Position, Align, Data}
use Rattle.yas_asm.specs.declared.statement.Shape.{Shape}
use Rattle.yas_asm.specs.declared.statement.Shape.TheVariants.{Alone, Registers, Immediate, Store, Load, Target, Single}
use Rattle.yas_asm.specs.declared.statement.Operation.{Operation}
use Rattle.y86_base.specs.Text.{is_blank, behind}
use Rattle.y86_base.specs.Keyword.{keyword_at, meaning_of}
use Rattle.y86_base.specs.Registers.{register_names}

-- a register by its name
unfoldable pub register : List ℕ → Option (ℕ × List ℕ)
register bytes = keyword_at register_names (behind is_blank bytes)

unfoldable pub directives : List (List ℕ × Directive)
directives =
    (codes ".pos", Position) ∷ (codes ".align", Align) ∷ (codes ".byte", Data One) ∷ (codes ".word", Data Two)
    ∷ (codes ".long", Data Four) ∷ (codes ".quad", Data Eight) ∷ []

unfoldable pub directive : List ℕ → Option (Directive × List ℕ)
directive bytes = keyword_at directives (behind is_blank bytes)

abbrev op : Shape → ℕ → ℕ → Operation
op shape icode ifun = record { shape = shape; icode = icode; ifun = ifun }

-- the mnemonics with their operands and the first byte of their instructions (CS:APP 3e, figures 4.2 and 4.3)
unfoldable pub base_mnemonics : List (List ℕ × Operation)
base_mnemonics =
    (codes "halt", op Alone 0 0) ∷ (codes "nop", op Alone 1 0) ∷ (codes "ret", op Alone 9 0)
    ∷ (codes "rrmovq", op Registers 2 0) ∷ (codes "cmovle", op Registers 2 1) ∷ (codes "cmovl", op Registers 2 2)
    ∷ (codes "cmove", op Registers 2 3) ∷ (codes "cmovne", op Registers 2 4) ∷ (codes "cmovge", op Registers 2 5)
    ∷ (codes "cmovg", op Registers 2 6)
    ∷ (codes "irmovq", op Immediate 3 0) ∷ (codes "rmmovq", op Store 4 0) ∷ (codes "mrmovq", op Load 5 0)
    ∷ (codes "addq", op Registers 6 0) ∷ (codes "subq", op Registers 6 1) ∷ (codes "andq", op Registers 6 2)
    ∷ (codes "xorq", op Registers 6 3)
    ∷ (codes "jmp", op Target 7 0) ∷ (codes "jle", op Target 7 1) ∷ (codes "jl", op Target 7 2) ∷ (codes "je", op Target 7 3)
    ∷ (codes "jne", op Target 7 4) ∷ (codes "jge", op Target 7 5) ∷ (codes "jg", op Target 7 6) ∷ (codes "call", op Target 8 0)
    ∷ (codes "pushq", op Single 10 0) ∷ (codes "popq", op Single 11 0) ∷ []

-- the mnemonics of an instruction set; `iaddq` is that of practice problem 4.3
abbrev pub mnemonics : Variant → List (List ℕ × Operation)
mnemonics Base = base_mnemonics
mnemonics Full = base_mnemonics ++ ((codes "iaddq", op Immediate 12 0) ∷ [])

-- the operation of a mnemonic, if the name is one
unfoldable pub mnemonic : Variant → List ℕ → Option Operation
mnemonic variant name = meaning_of (mnemonics variant) name
