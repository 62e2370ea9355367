-- Tests on the columns of a row, and how the columns of one row agree.
use Rattle.std.specs.Prelude.{◌≡◌, Bool, true, false, not, ◌&&◌, ◌||◌}
use Rattle.y86_isa.specs.declared.columns.Row.{Row}
use Rattle.y86_isa.specs.declared.columns.RegisterColumn.{RegisterColumn}
use Rattle.y86_isa.specs.declared.columns.RegisterColumn.TheVariants.{Dash, FieldA, FieldB, Stack}
use Rattle.y86_isa.specs.declared.columns.AluAColumn.{AluAColumn}
use Rattle.y86_isa.specs.declared.columns.AluAColumn.TheVariants.{NoA, ValA, ValC, Minus8, Plus8}
use Rattle.y86_isa.specs.declared.columns.AluBColumn.{AluBColumn}
use Rattle.y86_isa.specs.declared.columns.AluBColumn.TheVariants.{NoB, Zero, ValB}
use Rattle.y86_isa.specs.declared.columns.MemoryColumn.{MemoryColumn}
use Rattle.y86_isa.specs.declared.columns.MemoryColumn.TheVariants.{NoMem, StoreA, StoreP, LoadE, LoadA}
use Rattle.y86_isa.specs.declared.columns.NextPcColumn.{NextPcColumn}
use Rattle.y86_isa.specs.declared.columns.NextPcColumn.TheVariants.{Itself, Fall, Branch, Target, Loaded}
use Rattle.y86_isa.specs.Blocks.{is_load}

-- ---- registers

abbrev pub is_dash : RegisterColumn → Bool
is_dash Dash = true
is_dash FieldA = false
is_dash FieldB = false
is_dash Stack = false

abbrev pub is_field_a : RegisterColumn → Bool
is_field_a Dash = false
is_field_a FieldA = true
is_field_a FieldB = false
is_field_a Stack = false

abbrev pub is_field_b : RegisterColumn → Bool
is_field_b Dash = false
is_field_b FieldA = false
is_field_b FieldB = true
is_field_b Stack = false

abbrev pub is_stack : RegisterColumn → Bool
is_stack Dash = false
is_stack FieldA = false
is_stack FieldB = false
is_stack Stack = true

-- if the column names a register field, the instruction uses that field
abbrev pub is_used : Row → RegisterColumn → Bool
is_used r field = (not (is_field_a field) || r.uses_a) && (not (is_field_b field) || r.uses_b)

-- ---- the ALU

-- there is a first operand; a second one; the first is valA; the second is valB
abbrev pub has_operand_a : AluAColumn → Bool
has_operand_a NoA = false
has_operand_a ValA = true
has_operand_a ValC = true
has_operand_a Minus8 = true
has_operand_a Plus8 = true

abbrev pub has_operand_b : AluBColumn → Bool
has_operand_b NoB = false
has_operand_b Zero = true
has_operand_b ValB = true

abbrev pub operand_is_val_a : AluAColumn → Bool
operand_is_val_a NoA = false
operand_is_val_a ValA = true
operand_is_val_a ValC = false
operand_is_val_a Minus8 = false
operand_is_val_a Plus8 = false

abbrev pub operand_is_val_b : AluBColumn → Bool
operand_is_val_b NoB = false
operand_is_val_b Zero = false
operand_is_val_b ValB = true

-- ---- memory

-- a word is read or written
abbrev pub accesses : MemoryColumn → Bool
accesses NoMem = false
accesses StoreA = true
accesses StoreP = true
accesses LoadE = true
accesses LoadA = true

-- valA is stored; valP is stored; the address is valA; the address is valE
abbrev pub stores_val_a : MemoryColumn → Bool
stores_val_a NoMem = false
stores_val_a StoreA = true
stores_val_a StoreP = false
stores_val_a LoadE = false
stores_val_a LoadA = false

abbrev pub stores_val_p : MemoryColumn → Bool
stores_val_p NoMem = false
stores_val_p StoreA = false
stores_val_p StoreP = true
stores_val_p LoadE = false
stores_val_p LoadA = false

abbrev pub address_is_val_a : MemoryColumn → Bool
address_is_val_a NoMem = false
address_is_val_a StoreA = false
address_is_val_a StoreP = false
address_is_val_a LoadE = false
address_is_val_a LoadA = true

abbrev pub address_is_val_e : MemoryColumn → Bool
address_is_val_e NoMem = false
address_is_val_e StoreA = true
address_is_val_e StoreP = true
address_is_val_e LoadE = true
address_is_val_e LoadA = false

-- ---- the next PC

abbrev pub next_is_branch : NextPcColumn → Bool
next_is_branch Itself = false
next_is_branch Fall = false
next_is_branch Branch = true
next_is_branch Target = false
next_is_branch Loaded = false

abbrev pub next_is_val_m : NextPcColumn → Bool
next_is_val_m Itself = false
next_is_val_m Fall = false
next_is_val_m Branch = false
next_is_val_m Target = false
next_is_val_m Loaded = true

-- a pipeline carries valP in the place of valA (jXX and call), or valA itself, on to the memory stage
abbrev pub select_a_is_val_p : Row → Bool
select_a_is_val_p r = stores_val_p r.memory || next_is_branch r.next

abbrev pub select_a_is_val_a : Row → Bool
select_a_is_val_a r = stores_val_a r.memory || address_is_val_a r.memory

-- ---- the columns of one row

-- valE is used only if the ALU has a first operand; if it has a first operand, it has a second one
pub record OperandsAgree (r : Row) : Type 0 where
  pub destination : is_dash r.dst_e ≡ false → has_operand_a r.alu_a ≡ true
  pub flags : r.sets_flags ≡ true → has_operand_a r.alu_a ≡ true
  pub address : address_is_val_e r.memory ≡ true → has_operand_a r.alu_a ≡ true
  pub both : has_operand_a r.alu_a ≡ true → has_operand_b r.alu_b ≡ true

-- valA and valB are used only if they have a source; an instruction that stores valA doesn't compute with it; if valP
-- is carried in the place of valA, there is no source A
pub record SourcesAgree (r : Row) : Type 0 where
  pub alu_a : operand_is_val_a r.alu_a ≡ true → is_dash r.src_a ≡ false
  pub alu_b : operand_is_val_b r.alu_b ≡ true → is_dash r.src_b ≡ false
  pub carried : select_a_is_val_a r ≡ true → is_dash r.src_a ≡ false
  pub one_carried : select_a_is_val_a r ≡ true → select_a_is_val_p r ≡ false
  pub no_source : select_a_is_val_p r ≡ true → is_dash r.src_a ≡ true
  pub stored : stores_val_a r.memory ≡ true → operand_is_val_a r.alu_a ≡ false

-- a jump computes nothing and accesses no memory; the PC is loaded only if a word is loaded; an access sets
-- no flags; valM has a destination only if a word is loaded
pub record AccessesAgree (r : Row) : Type 0 where
  pub branch_operand : next_is_branch r.next ≡ true → has_operand_a r.alu_a ≡ false
  pub branch_access : next_is_branch r.next ≡ true → accesses r.memory ≡ false
  pub loaded : next_is_val_m r.next ≡ true → address_is_val_a r.memory ≡ true
  pub flags : accesses r.memory ≡ true → r.sets_flags ≡ false
  pub destination : is_dash r.dst_m ≡ false → is_load r.memory ≡ true

-- if a column names a register field, the instruction uses it; a field that it uses is in the register byte
pub record FieldsAgree (r : Row) : Type 0 where
  pub src_a : is_used r r.src_a ≡ true
  pub src_b : is_used r r.src_b ≡ true
  pub dst_e : is_used r r.dst_e ≡ true
  pub dst_m : is_used r r.dst_m ≡ true
  pub byte_a : r.uses_a ≡ true → r.has_byte ≡ true
  pub byte_b : r.uses_b ≡ true → r.has_byte ≡ true
