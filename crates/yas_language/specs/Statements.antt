-- The statements of the assembly language, a constructor for each row of its table: the operands of an instruction are those of CS:APP 3e,
-- figure 4.2, in the order in which they are written, and its codes those of figures 4.2 and 4.3.
use Rattle.std.specs.Prelude.{◌≡◌, ℕ, ◌-◌, ◌^◌, ◌%◌, ◌<◌, Bool, true, false, nat_le, if◌then◌else◌, List, [], ◌∷◌, Option, Some, None, codes}
use Rattle.y86_base.specs.declared.number.Number.{Number}
use Rattle.y86_base.specs.declared.parts.Variant.{Variant}
use Rattle.y86_base.specs.declared.parts.Variant.TheVariants.{Full}
use Rattle.yas_asm.specs.declared.statement.Width.{Width}
use Rattle.yas_asm.specs.declared.statement.Width.TheVariants.{One, Two, Four, Eight}
use Rattle.yas_asm.specs.declared.statement.Directive.{Directive}
use Rattle.yas_asm.specs.declared.statement.Directive.TheVariants as directives
use Rattle.yas_asm.specs.declared.statement.Operand.{Operand}
use Rattle.yas_asm.specs.declared.statement.Operand.TheVariants.{Word, Label, Wide}
use Rattle.yas_asm.specs.declared.statement.Statement.{Statement}
use Rattle.yas_asm.specs.declared.statement.Statement.TheVariants as statements
use Rattle.yas_asm.specs.declared.statement.Parsed.{Parsed}
use Rattle.yas_language.specs.Tokens.{Token, word, number, register, directive, dollar, comma, left_paren, right_paren, colon}

-- the largest magnitude of a number in a width, with a `-` before it and without
abbrev pub most_below : Width → ℕ
most_below One = 128
most_below Two = 32768
most_below Four = 2147483648
most_below Eight = 9223372036854775808

abbrev pub most_above : Width → ℕ
most_above One = 255
most_above Two = 65535
most_above Four = 4294967295
most_above Eight = 18446744073709551615

-- a written number as an operand: a negative one counts modulo 2^64, and one outside the bounds is too wide
abbrev pub value_of_parts : Width → Bool → Option ℕ → Operand
value_of_parts width negative None = Wide
value_of_parts width false (Some n) = if nat_le n (most_above width) then Word n else Wide
value_of_parts width true (Some n) = if nat_le n (most_below width) then Word ((2 ^ 64 - n) % 2 ^ 64) else Wide

abbrev pub value : Width → Number → Operand
value width n = value_of_parts width n.negative n.magnitude

-- V, first without `$`: a number or a label. The last list is the tokens after it
pub data IsValue (width : Width) : List Token → Operand → List Token → Type 0 where
  a_number : (n : Number) (rest : List Token) → IsValue width (number n ∷ rest) (value width n) rest
  a_label : (name : List ℕ) (rest : List Token) → IsValue width (word name ∷ rest) (Label name) rest

pub data IsOperand (width : Width) : List Token → Operand → List Token → Type 0 where
  bare : (ts : List Token) (v : Operand) (rest : List Token) → IsValue width ts v rest → IsOperand width ts v rest
  with_dollar : (ts : List Token) (v : Operand) (rest : List Token) → IsValue width ts v rest → IsOperand width (dollar ∷ ts) v rest

-- D(rB), or (rB) with 0 for D
pub data IsMemory : List Token → Operand → ℕ → List Token → Type 0 where
  no_displacement : (b : ℕ) (rest : List Token) → IsMemory (left_paren ∷ register b ∷ right_paren ∷ rest) (Word 0) b rest
  with_displacement : (ts : List Token) (d : Operand) (b : ℕ) (rest : List Token) → IsOperand Eight ts d (left_paren ∷ register b ∷ right_paren ∷ rest) → IsMemory ts d b rest

-- the functions of rrmovq and the conditional moves
pub data IsMove : List ℕ → ℕ → Type 0 where
  rrmovq : IsMove (codes "rrmovq") 0
  cmovle : IsMove (codes "cmovle") 1
  cmovl : IsMove (codes "cmovl") 2
  cmove : IsMove (codes "cmove") 3
  cmovne : IsMove (codes "cmovne") 4
  cmovge : IsMove (codes "cmovge") 5
  cmovg : IsMove (codes "cmovg") 6

-- the functions of the arithmetic and logical operations
pub data IsOperation : List ℕ → ℕ → Type 0 where
  addq : IsOperation (codes "addq") 0
  subq : IsOperation (codes "subq") 1
  andq : IsOperation (codes "andq") 2
  xorq : IsOperation (codes "xorq") 3

-- the functions of the jumps
pub data IsJump : List ℕ → ℕ → Type 0 where
  jmp : IsJump (codes "jmp") 0
  jle : IsJump (codes "jle") 1
  jl : IsJump (codes "jl") 2
  je : IsJump (codes "je") 3
  jne : IsJump (codes "jne") 4
  jge : IsJump (codes "jge") 5
  jg : IsJump (codes "jg") 6

-- N: a number that is not negative, by its magnitude
pub data IsNatural : Number → Option ℕ → Type 0 where
  positive : (magnitude : Option ℕ) → IsNatural (record { negative = false; magnitude = magnitude }) magnitude
  minus_zero : IsNatural (record { negative = true; magnitude = Some 0 }) (Some 0)

-- an instruction; 15 means a register that it does not have, and the number 0 a constant that it does not have
abbrev pub instruction : ℕ → ℕ → ℕ → ℕ → Operand → Statement
instruction icode ifun a b constant = statements.Instruction icode ifun a b constant

-- the tokens after a mnemonic
pub data IsInstruction (variant : Variant) : List ℕ → List Token → Statement → Type 0 where
  halt : IsInstruction variant (codes "halt") [] (instruction 0 0 15 15 (Word 0))
  nop : IsInstruction variant (codes "nop") [] (instruction 1 0 15 15 (Word 0))
  ret : IsInstruction variant (codes "ret") [] (instruction 9 0 15 15 (Word 0))
  move : (name : List ℕ) (f a b : ℕ) → IsMove name f → IsInstruction variant name (register a ∷ comma ∷ register b ∷ []) (instruction 2 f a b (Word 0))
  irmovq : (ts : List Token) (v : Operand) (b : ℕ) → IsOperand Eight ts v (comma ∷ register b ∷ []) → IsInstruction variant (codes "irmovq") ts (instruction 3 0 15 b v)
  rmmovq : (a : ℕ) (ts : List Token) (d : Operand) (b : ℕ) → IsMemory ts d b [] → IsInstruction variant (codes "rmmovq") (register a ∷ comma ∷ ts) (instruction 4 0 a b d)
  mrmovq : (ts : List Token) (d : Operand) (b a : ℕ) → IsMemory ts d b (comma ∷ register a ∷ []) → IsInstruction variant (codes "mrmovq") ts (instruction 5 0 a b d)
  operation : (name : List ℕ) (f a b : ℕ) → IsOperation name f → IsInstruction variant name (register a ∷ comma ∷ register b ∷ []) (instruction 6 f a b (Word 0))
  jump : (name : List ℕ) (f : ℕ) (ts : List Token) (v : Operand) → IsJump name f → IsOperand Eight ts v [] → IsInstruction variant name ts (instruction 7 f 15 15 v)
  call : (ts : List Token) (v : Operand) → IsOperand Eight ts v [] → IsInstruction variant (codes "call") ts (instruction 8 0 15 15 v)
  pushq : (a : ℕ) → IsInstruction variant (codes "pushq") (register a ∷ []) (instruction 10 0 a 15 (Word 0))
  popq : (a : ℕ) → IsInstruction variant (codes "popq") (register a ∷ []) (instruction 11 0 a 15 (Word 0))
  iaddq : variant ≡ Full → (ts : List Token) (v : Operand) (b : ℕ) → IsOperand Eight ts v (comma ∷ register b ∷ []) → IsInstruction variant (codes "iaddq") ts (instruction 12 0 15 b v)

-- the tokens after a directive
pub data IsDirective : Directive → List Token → Statement → Type 0 where
  pos : (n : Number) (k : ℕ) → IsNatural n (Some k) → IsDirective directives.Position (number n ∷ []) (statements.Position k)
  wide_pos : (n : Number) → IsNatural n None → IsDirective directives.Position (number n ∷ []) statements.Wide
  align : (n : Number) (k : ℕ) → IsNatural n (Some k) → 0 < k → IsDirective directives.Align (number n ∷ []) (statements.Align k)
  wide_align : (n : Number) → IsNatural n None → IsDirective directives.Align (number n ∷ []) statements.Wide
  data_of : (width : Width) (ts : List Token) (v : Operand) → IsOperand width ts v [] → IsDirective (directives.Data width) ts (statements.Data width v)

-- the tokens of a statement
pub data IsStatement (variant : Variant) : List Token → Statement → Type 0 where
  mnemonic_first : (name : List ℕ) (ts : List Token) (s : Statement) → IsInstruction variant name ts s → IsStatement variant (word name ∷ ts) s
  directive_first : (d : Directive) (ts : List Token) (s : Statement) → IsDirective d ts s → IsStatement variant (directive d ∷ ts) s

-- the tokens of a line: an optional label and an optional statement
pub data IsLine (variant : Variant) : List Token → Parsed → Type 0 where
  nothing : IsLine variant [] (record { label = None; statement = statements.Nothing })
  alone : (ts : List Token) (s : Statement) → IsStatement variant ts s → IsLine variant ts (record { label = None; statement = s })
  label : (name : List ℕ) → IsLine variant (word name ∷ colon ∷ []) (record { label = Some name; statement = statements.Nothing })
  labelled : (name : List ℕ) (ts : List Token) (s : Statement) → IsStatement variant ts s → IsLine variant (word name ∷ colon ∷ ts) (record { label = Some name; statement = s })
