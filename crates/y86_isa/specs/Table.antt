-- The instruction table of Y86-64 (CS:APP 3e, figures 4.2, 4.3 and 4.18 to 4.21; iaddq from exercises 4.51 and 4.52).
use Rattle.std.specs.Prelude.{ℕ, Bool, true, false, ◌&&◌, nat_lt, nat_le, List, [], ◌∷◌, ◌++◌, length, slice_get, unwrap_or}
use Rattle.y86_base.specs.declared.parts.Variant.{Variant}
use Rattle.y86_base.specs.declared.parts.Variant.TheVariants.{Base, Full}
use Rattle.y86_isa.specs.declared.columns.Row.{Row}
use Rattle.y86_isa.specs.declared.columns.RegisterColumn.{RegisterColumn}
use Rattle.y86_isa.specs.declared.columns.RegisterColumn.TheVariants.{Dash, FieldA, FieldB, Stack}
use Rattle.y86_isa.specs.declared.columns.AluAColumn.{AluAColumn}
use Rattle.y86_isa.specs.declared.columns.AluAColumn.TheVariants.{NoA, ValA, ValC, Minus8, Plus8}
use Rattle.y86_isa.specs.declared.columns.AluBColumn.{AluBColumn}
use Rattle.y86_isa.specs.declared.columns.AluBColumn.TheVariants.{NoB, Zero, ValB}
use Rattle.y86_isa.specs.declared.columns.MemoryColumn.{MemoryColumn}
use Rattle.y86_isa.specs.declared.columns.MemoryColumn.TheVariants.{NoMem, StoreA, StoreP, LoadE, LoadA}
use Rattle.y86_isa.specs.declared.columns.NextPcColumn.{NextPcColumn}
use Rattle.y86_isa.specs.declared.columns.NextPcColumn.TheVariants.{Itself, Fall, Branch, Target, Loaded}

-- the icodes that other definitions name, as in figure 4.26; the others appear only in the table
abbrev pub ihalt : ℕ
ihalt = 0

abbrev pub inop : ℕ
inop = 1

-- the icode of an invalid instruction: no instruction has it
abbrev pub iinvalid : ℕ
iinvalid = 15

-- the number that means no register, and the number of %rsp (figures 4.4 and 4.26)
abbrev pub no_register : ℕ
no_register = 15

abbrev pub stack_pointer : ℕ
stack_pointer = 4

-- ---- the words of the table

-- what follows the first byte (figure 4.2): nothing, the register byte, an 8-byte constant, or both; it determines the
-- length
record Layout : Type 0 where
  bytes : ℕ
  has_byte : Bool
  has_const : Bool

abbrev bare : Layout
bare = record { bytes = 1; has_byte = false; has_const = false }

abbrev regs : Layout
regs = record { bytes = 2; has_byte = true; has_const = false }

abbrev target : Layout
target = record { bytes = 9; has_byte = false; has_const = true }

abbrev both : Layout
both = record { bytes = 10; has_byte = true; has_const = true }

-- the register fields that have to name a register
record Used : Type 0 where
  a : Bool
  b : Bool

abbrev none : Used
none = record { a = false; b = false }

abbrev rA : Used
rA = record { a = true; b = false }

abbrev rB : Used
rB = record { a = false; b = true }

abbrev rA_rB : Used
rA_rB = record { a = true; b = true }

-- the ifuns that an icode accepts: any, as it ignores them, or those up to a number
abbrev any : ℕ
any = 15

abbrev upto : ℕ → ℕ
upto n = n

-- the destination of valE: always, or only if the condition holds
record Destination : Type 0 where
  field : RegisterColumn
  conditional : Bool

abbrev to : RegisterColumn → Destination
to field = record { field = field; conditional = false }

abbrev if_cond : RegisterColumn → Destination
if_cond field = record { field = field; conditional = true }

-- the ALU adds, or its function is the ifun; the flags are kept, or set by the ALU
abbrev adds : Bool
adds = false

abbrev by_ifun : Bool
by_ifun = true

abbrev keeps : Bool
keeps = false

abbrev sets : Bool
sets = true

-- the row with these columns
abbrev columns : Layout → Used → ℕ → RegisterColumn → RegisterColumn → Destination → RegisterColumn → AluAColumn → AluBColumn → Bool → Bool → MemoryColumn → NextPcColumn → Row
columns layout used ifun_top src_a src_b dst_e dst_m alu_a alu_b selects sets_flags memory next =
    record {
      length = layout.bytes;
      uses_a = used.a;
      uses_b = used.b;
      has_byte = layout.has_byte;
      has_const = layout.has_const;
      ifun_top = ifun_top;
      src_a = src_a;
      src_b = src_b;
      dst_e = dst_e.field;
      dst_m = dst_m;
      conditional = dst_e.conditional;
      alu_a = alu_a;
      alu_b = alu_b;
      selects = selects;
      sets_flags = sets_flags;
      memory = memory;
      next = next;
    }

-- ---- the table

-- layout, fields used, ifuns | srcA srcB (dstE) dstM | aluA aluB, ALU, flags | memory | next PC
abbrev base_rows : List Row
base_rows =
    columns bare none any Dash Dash (to Dash) Dash NoA NoB adds keeps NoMem Itself ∷  -- 0 halt
    columns bare none any Dash Dash (to Dash) Dash NoA NoB adds keeps NoMem Fall ∷  -- 1 nop
    columns regs rA_rB (upto 6) FieldA Dash (if_cond FieldB) Dash ValA Zero adds keeps NoMem Fall ∷  -- 2 rrmovq, cmovXX
    columns both rB any Dash Dash (to FieldB) Dash ValC Zero adds keeps NoMem Fall ∷  -- 3 irmovq
    columns both rA_rB any FieldA FieldB (to Dash) Dash ValC ValB adds keeps StoreA Fall ∷  -- 4 rmmovq
    columns both rA_rB any Dash FieldB (to Dash) FieldA ValC ValB adds keeps LoadE Fall ∷  -- 5 mrmovq
    columns regs rA_rB (upto 3) FieldA FieldB (to FieldB) Dash ValA ValB by_ifun sets NoMem Fall ∷  -- 6 OPq
    columns target none (upto 6) Dash Dash (to Dash) Dash NoA NoB adds keeps NoMem Branch ∷  -- 7 jXX
    columns target none any Dash Stack (to Stack) Dash Minus8 ValB adds keeps StoreP Target ∷  -- 8 call
    columns bare none any Stack Stack (to Stack) Dash Plus8 ValB adds keeps LoadA Loaded ∷  -- 9 ret
    columns regs rA any FieldA Stack (to Stack) Dash Minus8 ValB adds keeps StoreA Fall ∷  -- 10 pushq
    columns regs rA any Stack Stack (to Stack) FieldA Plus8 ValB adds keeps LoadA Fall ∷  -- 11 popq
    []

abbrev pub iaddq : Row
iaddq =
    columns both rB any Dash FieldB (to FieldB) Dash ValC ValB adds sets NoMem Fall  -- 12 iaddq

-- the rows of a variant, by icode
abbrev pub rows : Variant → List Row
rows Base = base_rows
rows Full = base_rows ++ (iaddq ∷ [])

-- the row of no instruction: one byte, and a dash in each column
abbrev pub dash_row : Row
dash_row =
    columns bare none (upto 0) Dash Dash (to Dash) Dash NoA NoB adds keeps NoMem Itself

-- the row of an icode; an icode without a row has the row of dashes
unfoldable pub row : Variant → ℕ → Row
row v icode = unwrap_or (slice_get (rows v) icode) dash_row

-- a first byte begins an instruction: its icode has a row, and the icode accepts its ifun
abbrev pub is_instruction : Variant → ℕ → ℕ → Bool
is_instruction v icode ifun = nat_lt icode (length (rows v)) && nat_le ifun (row v icode).ifun_top
