-- The text of an instruction, as the assembler reads it (CS:APP 3e, figures 4.2 and 4.3), and the texts for what isn't
-- an instruction.
use Rattle.std.specs.Prelude.{ℕ, Bool, List, [], ◌∷◌, ◌++◌, codes, slice_index_or, not, if◌then◌else◌}
use Rattle.y86_base.specs.Numeral.{signed_decimal}
use Rattle.y86_base.specs.declared.parts.Variant.TheVariants.{Full}
use Rattle.y86_isa.specs.Table.{is_instruction}
use Rattle.pipe_stage_text.specs.Numbers.{address, register}
use Rattle.pipe_stage_text.specs.declared.stage_content.StageContent.{StageContent}
use Rattle.pipe_stage_text.specs.declared.instruction.OperandShape.{OperandShape}
use Rattle.pipe_stage_text.specs.declared.instruction.OperandShape.TheVariants.{Alone, Registers, Immediate, Store, Load, Target, Single}

-- the operands of the instructions of an icode
unfoldable pub shape_of : ℕ → OperandShape
shape_of icode =
    slice_index_or
    (Alone ∷ Alone ∷ Registers ∷ Immediate ∷ Store ∷ Load ∷ Registers ∷ Target ∷ Target ∷ Alone ∷ Single ∷ Single ∷ Immediate ∷ [])
    icode Alone

-- the names of the icodes that several instructions have, by ifun
unfoldable pub moves : List (List ℕ)
moves = codes "rrmovq" ∷ codes "cmovle" ∷ codes "cmovl" ∷ codes "cmove" ∷ codes "cmovne" ∷ codes "cmovge" ∷ codes "cmovg" ∷ []

unfoldable pub operations : List (List ℕ)
operations = codes "addq" ∷ codes "subq" ∷ codes "andq" ∷ codes "xorq" ∷ []

unfoldable pub jumps : List (List ℕ)
jumps = codes "jmp" ∷ codes "jle" ∷ codes "jl" ∷ codes "je" ∷ codes "jne" ∷ codes "jge" ∷ codes "jg" ∷ []

-- the name of an instruction: that of its icode, or of its ifun if several instructions have its icode
unfoldable pub mnemonic : ℕ → ℕ → List ℕ
mnemonic icode ifun =
    slice_index_or
    (codes "halt" ∷ codes "nop" ∷ slice_index_or moves ifun [] ∷ codes "irmovq" ∷ codes "rmmovq" ∷ codes "mrmovq" ∷ slice_index_or operations ifun []
    ∷ slice_index_or jumps ifun [] ∷ codes "call" ∷ codes "ret" ∷ codes "pushq" ∷ codes "popq" ∷ codes "iaddq" ∷ [])
    icode []

-- the operands of each shape
abbrev pub two_registers : StageContent → List ℕ
two_registers h = codes " " ++ (register h.r_a ++ (codes ", " ++ register h.r_b))

abbrev pub immediate : StageContent → List ℕ
immediate h = codes " $" ++ (signed_decimal h.val_c ++ (codes ", " ++ register h.r_b))

abbrev pub place : StageContent → List ℕ
place h = signed_decimal h.val_c ++ (codes "(" ++ (register h.r_b ++ codes ")"))

abbrev pub store : StageContent → List ℕ
store h = codes " " ++ (register h.r_a ++ (codes ", " ++ place h))

abbrev pub load : StageContent → List ℕ
load h = codes " " ++ (place h ++ (codes ", " ++ register h.r_a))

abbrev pub target : StageContent → List ℕ
target h = codes " " ++ address h.val_c

abbrev pub single : StageContent → List ℕ
single h = codes " " ++ register h.r_a

unfoldable pub operands : OperandShape → StageContent → List ℕ
operands Alone h = []
operands Registers h = two_registers h
operands Immediate h = immediate h
operands Store h = store h
operands Load h = load h
operands Target h = target h
operands Single h = single h

-- an instruction by its codes; an ifun that the instruction ignores may be any number
abbrev pub is_valid : ℕ → ℕ → Bool
is_valid icode ifun = is_instruction Full icode ifun

-- The text of what a stage holds. A fetch fails if a byte of the instruction is outside the memory.
unfoldable pub instruction : StageContent → List ℕ
instruction h =
    if not h.live then codes "bubble"
    else (if h.failed then codes "failed fetch"
    else (if not (is_valid h.icode h.ifun) then codes "invalid"
    else mnemonic h.icode h.ifun ++ operands (shape_of h.icode) h))
