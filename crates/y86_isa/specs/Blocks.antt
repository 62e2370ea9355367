-- What the parts of a processor compute, on numbers and lists of bytes (CS:APP 3e, sections 4.1 and 4.3.2 to 4.3.4).
-- Addresses are modulo 2^64. Truths such as need_regids are arguments, so that a datapath can pass its own signals.
use Rattle.std.specs.Prelude.{ℕ, ◌+◌, ◌-◌, ◌/◌, ◌%◌, ◌^◌, Bool, true, false, ◌&&◌, ◌||◌, not, nat_le, ◌==◌, List, [], ◌∷◌, length, map, slice_get, Option, Some, None, unwrap_or, is_none, if◌then◌else◌, ℤ, pos, ◌+ℤ◌, ◌-ℤ◌, neg_ℤ, int_le, int_lt, bit_and, bit_xor}
use Rattle.std.specs.Int.{from_le_bytes, w64, cast_signed}
use Rattle.y86_base.specs.Image.{word_at, put_word}
use Rattle.y86_base.specs.Registers.{with_register}
use Rattle.y86_base.specs.declared.parts.Flags.{Flags}
use Rattle.y86_base.specs.declared.parts.Stat.{Stat}
use Rattle.y86_base.specs.declared.parts.Stat.TheVariants.{Aok, Hlt, Adr, Ins}
use Rattle.y86_base.specs.declared.parts.Variant.{Variant}
use Rattle.y86_isa.specs.declared.columns.Row.{Row}
use Rattle.y86_isa.specs.declared.columns.RegisterColumn.{RegisterColumn}
use Rattle.y86_isa.specs.declared.columns.RegisterColumn.TheVariants.{Dash, FieldA, FieldB, Stack}
use Rattle.y86_isa.specs.declared.columns.AluAColumn.{AluAColumn}
use Rattle.y86_isa.specs.declared.columns.AluAColumn.TheVariants.{NoA, ValA, ValC, Minus8, Plus8}
use Rattle.y86_isa.specs.declared.columns.AluBColumn.{AluBColumn}
use Rattle.y86_isa.specs.declared.columns.AluBColumn.TheVariants.{NoB, Zero, ValB}
use Rattle.y86_isa.specs.declared.columns.MemoryColumn.{MemoryColumn}
use Rattle.y86_isa.specs.declared.columns.MemoryColumn.TheVariants.{NoMem, StoreA, StoreP, LoadE, LoadA}
use Rattle.y86_isa.specs.declared.columns.NextPcColumn.{NextPcColumn}
use Rattle.y86_isa.specs.declared.columns.NextPcColumn.TheVariants.{Itself, Fall, Branch, Target, Loaded}
use Rattle.y86_isa.specs.declared.fetch.Fetched.{Fetched}
use Rattle.y86_isa.specs.declared.fetch.Reading.{Reading}
use Rattle.y86_isa.specs.declared.machine.Store.{Store}
use Rattle.y86_isa.specs.declared.unit.AluOut.{AluOut}
use Rattle.y86_isa.specs.Table.{ihalt, inop, iinvalid, no_register, stack_pointer, row, is_instruction}

-- ---- fetch (section 4.3.1, "Fetch", and figure 4.27)

-- the byte at an address, and 0 outside
abbrev pub byte_at : List ℕ → ℕ → ℕ
byte_at memory address = unwrap_or (slice_get memory (address % 2 ^ 64)) 0

-- the halves of a byte
abbrev pub high_half : ℕ → ℕ
high_half byte = byte / 16

abbrev pub low_half : ℕ → ℕ
low_half byte = byte % 16

-- rA and rB: the halves of the byte after the first, if there is a register byte
unfoldable pub field_a : List ℕ → ℕ → Bool → ℕ
field_a memory pc need_regids = if need_regids then high_half (byte_at memory (pc + 1)) else no_register

unfoldable pub field_b : List ℕ → ℕ → Bool → ℕ
field_b memory pc need_regids = if need_regids then low_half (byte_at memory (pc + 1)) else no_register

-- the 8 bytes from an address on as a word, lowest first
unfoldable pub word_from : List ℕ → ℕ → ℕ
word_from memory address =
    from_le_bytes w64 (map (λ k. byte_at memory (address + k)) (0 ∷ 1 ∷ 2 ∷ 3 ∷ 4 ∷ 5 ∷ 6 ∷ 7 ∷ []))

-- valC: the constant after the first byte and the register byte
unfoldable pub constant_at : List ℕ → ℕ → Bool → Bool → ℕ
constant_at memory pc need_regids need_valC =
    if need_valC then word_from memory (pc + (if need_regids then 2 else 1)) else 0

-- valP: the address after the instruction
unfoldable pub behind : ℕ → Bool → Bool → ℕ
behind pc need_regids need_valC =
    (pc + 1 + (if need_regids then 1 else 0) + (if need_valC then 8 else 0)) % 2 ^ 64

-- an instruction that isn't all inside memory reads as a nop with an address error (imem_error); an invalid instruction
-- has an icode of its own
abbrev pub outside : Reading
outside = record { error = true; icode = inop; ifun = 0 }

abbrev pub invalid : Reading
invalid = record { error = false; icode = iinvalid; ifun = 0 }

-- a register field that the instruction uses names no register
abbrev pub lacks_register : List ℕ → ℕ → Row → Bool
lacks_register memory pc r =
    (r.uses_a && (field_a memory pc r.has_byte == no_register)) || (r.uses_b && (field_b memory pc r.has_byte == no_register))

-- how the bytes at a PC are read, by the first of them. The first case that applies decides: the first byte is outside;
-- it begins no instruction; a later byte is outside; a register field that the instruction uses names no register
abbrev pub reading_by_first : Variant → List ℕ → ℕ → Option ℕ → Reading
reading_by_first v memory pc None = outside
reading_by_first v memory pc (Some byte) =
    let icode = high_half byte in
    let ifun = low_half byte in
    let r = row v icode in
    if not (is_instruction v icode ifun) then invalid
    else (if not (nat_le (pc + r.length) (length memory)) then outside
    else (if lacks_register memory pc r then invalid
    else record { error = false; icode = icode; ifun = ifun }))

unfoldable pub reading : Variant → List ℕ → ℕ → Reading
reading v memory pc = reading_by_first v memory pc (slice_get memory pc)

-- the fields of an instruction that was read, by its row, which says which fields it has
abbrev pub fetched_by : List ℕ → ℕ → Reading → Row → Fetched
fetched_by memory pc read r =
    record {
      error = read.error;
      icode = read.icode;
      ifun = read.ifun;
      r_a = field_a memory pc r.has_byte;
      r_b = field_b memory pc r.has_byte;
      val_c = constant_at memory pc r.has_byte r.has_const;
      val_p = behind pc r.has_byte r.has_const;
    }

-- all that is fetched at a PC
unfoldable pub fetched : Variant → List ℕ → ℕ → Fetched
fetched v memory pc =
    let read = reading v memory pc in
    fetched_by memory pc read (row v read.icode)

-- the status so far, from what was fetched alone (the signal Stat of section 4.3.4)
abbrev pub fetch_status : Bool → ℕ → Stat
fetch_status error icode =
    if error then Adr
    else (if icode == iinvalid then Ins
    else (if icode == ihalt then Hlt else Aok))

-- ---- decode (figure 4.28)

-- the register number that a column names
abbrev pub register_number : RegisterColumn → ℕ → ℕ → ℕ
register_number Dash r_a r_b = no_register
register_number FieldA r_a r_b = r_a
register_number FieldB r_a r_b = r_b
register_number Stack r_a r_b = stack_pointer

-- ---- execute (figure 4.29)

-- aluA and aluB; 0 if the table has a dash
abbrev pub operand_a : AluAColumn → ℕ → ℕ → ℕ
operand_a NoA val_a val_c = 0
operand_a ValA val_a val_c = val_a
operand_a ValC val_a val_c = val_c
operand_a Minus8 val_a val_c = 2 ^ 64 - 8
operand_a Plus8 val_a val_c = 8

abbrev pub operand_b : AluBColumn → ℕ → ℕ
operand_b NoB val_b = 0
operand_b Zero val_b = 0
operand_b ValB val_b = val_b

-- the result of the ALU (figure 4.3): addq, subq, andq and xorq by their ifun, and 0 for any other function
unfoldable pub alu_value : ℕ → ℕ → ℕ → ℕ
alu_value f a b =
    if f == 0 then (b + a) % 2 ^ 64
    else (if f == 1 then (b + (2 ^ 64 - a)) % 2 ^ 64
    else (if f == 2 then bit_and b a
    else (if f == 3 then bit_xor b a else 0)))

-- the number that a word represents in two's complement, and whether a word can represent a number
abbrev pub signed : ℕ → ℤ
signed word = cast_signed w64 word

abbrev pub fits_word : ℤ → Bool
fits_word n = int_le (neg_ℤ (pos (2 ^ 63))) n && int_lt n (pos (2 ^ 63))

-- signed overflow; only a sum or a difference overflows
abbrev pub alu_overflows : ℕ → ℕ → ℕ → Bool
alu_overflows f a b =
    if f == 0 then not (fits_word (signed b +ℤ signed a))
    else (if f == 1 then not (fits_word (signed b -ℤ signed a)) else false)

-- the condition codes ZF, SF and OF of a result (section 4.1.1)
abbrev pub condition_codes : ℕ → Bool → Flags
condition_codes value overflows = record { zf = value == 0; sf = nat_le (2 ^ 63) value; of = overflows }

unfoldable pub alu_flags : ℕ → ℕ → ℕ → Flags
alu_flags f a b = condition_codes (alu_value f a b) (alu_overflows f a b)

abbrev pub alu : ℕ → ℕ → ℕ → AluOut
alu f a b = record { val = alu_value f a b; flags = alu_flags f a b }

-- the function of the ALU: the ifun if the row selects by it, else addition
abbrev pub alu_function : Bool → ℕ → ℕ
alu_function selects ifun = if selects then ifun else 0

-- one of two truths, and not both
abbrev pub exclusive_or : Bool → Bool → Bool
exclusive_or a b = (a && not b) || (not a && b)

-- the condition l, SF ^ OF: the last operation came out less
abbrev pub is_less : Flags → Bool
is_less flags = exclusive_or flags.sf flags.of

-- the condition codes after the ALU: set by it, or as before
abbrev pub flags_after : Bool → ℕ → ℕ → ℕ → Flags → Flags
flags_after sets f a b before = if sets then alu_flags f a b else before

-- the condition of a jump or a move (figure 3.15): unconditional, le, l, e, ne, ge, g by their ifun; false for any
-- other
unfoldable pub condition : ℕ → Flags → Bool
condition f flags =
    if f == 0 then true
    else (if f == 1 then is_less flags || flags.zf
    else (if f == 2 then is_less flags
    else (if f == 3 then flags.zf
    else (if f == 4 then not flags.zf
    else (if f == 5 then not (is_less flags)
    else (if f == 6 then not (is_less flags) && not flags.zf else false))))))

-- the destination of valE; a condition that isn't met removes it
abbrev pub destination_e : Bool → Bool → ℕ → ℕ
destination_e conditional cnd raw = if conditional && not cnd then no_register else raw

-- ---- memory (figure 4.30)

abbrev pub is_store : MemoryColumn → Bool
is_store NoMem = false
is_store StoreA = true
is_store StoreP = true
is_store LoadE = false
is_store LoadA = false

abbrev pub is_load : MemoryColumn → Bool
is_load NoMem = false
is_load StoreA = false
is_load StoreP = false
is_load LoadE = true
is_load LoadA = true

-- the address of the data; 0 if there is no access
abbrev pub data_address : MemoryColumn → ℕ → ℕ → ℕ
data_address NoMem val_a val_e = 0
data_address StoreA val_a val_e = val_e
data_address StoreP val_a val_e = val_e
data_address LoadE val_a val_e = val_e
data_address LoadA val_a val_e = val_a

-- the word to store; 0 if there is none
abbrev pub data_word : MemoryColumn → ℕ → ℕ → ℕ
data_word NoMem val_a val_p = 0
data_word StoreA val_a val_p = val_a
data_word StoreP val_a val_p = val_p
data_word LoadE val_a val_p = 0
data_word LoadA val_a val_p = 0

-- dmem_error: a word is to be read or written, and not all of it is inside memory
unfoldable pub data_error : List ℕ → ℕ → Bool → Bool → Bool
data_error memory address reads writes = (reads || writes) && is_none (word_at memory address)

-- the word that is read; 0 if there is none
unfoldable pub data_read : List ℕ → ℕ → Bool → ℕ
data_read memory address reads = if reads then unwrap_or (word_at memory address) 0 else 0

-- the store that takes place, and the memory after it
unfoldable pub data_store : ℕ → ℕ → Bool → Bool → Option Store
data_store address word writes error =
    if writes && not error then Some (record { addr = address; word = word }) else None

unfoldable pub stored : List ℕ → Option Store → List ℕ
stored memory None = memory
stored memory (Some store) = put_word memory store.addr store.word

-- ---- write back (figure 4.28)

-- the registers after both destinations are written: dstE gets valE, then dstM gets valM, which wins if they are the
-- same
abbrev pub written_back : List ℕ → ℕ → ℕ → ℕ → ℕ → List ℕ
written_back registers dst_e val_e dst_m val_m = with_register (with_register registers dst_e val_e) dst_m val_m

-- ---- PC update (figure 4.31)

abbrev pub next_address : NextPcColumn → ℕ → ℕ → ℕ → ℕ → Bool → ℕ
next_address Itself pc val_p val_c val_m cnd = pc
next_address Fall pc val_p val_c val_m cnd = val_p
next_address Branch pc val_p val_c val_m cnd = if cnd then val_c else val_p
next_address Target pc val_p val_c val_m cnd = val_c
next_address Loaded pc val_p val_c val_m cnd = val_m
