-- Instructions as their fields, and the bytes that encode them (CS:APP 3e, figures 4.2 and 4.3).
use Rattle.std.specs.Prelude.{◌≡◌, ℕ, ◌+◌, ◌*◌, ◌%◌, ◌^◌, ◌<◌, ◌≤◌, Bool, false, MatchBool, ◌==◌, List, [], ◌∷◌, ◌++◌, length, take, drop, if◌then◌else◌}
use Rattle.std.specs.Int.{to_le_bytes, w64}
use Rattle.y86_base.specs.declared.parts.Variant.{Variant}
use Rattle.y86_base.specs.declared.parts.Variant.TheVariants.{Full}
use Rattle.y86_isa.specs.declared.columns.Row.{Row}
use Rattle.y86_isa.specs.declared.fetch.Fetched.{Fetched}
use Rattle.y86_isa.specs.declared.encoding.Instr.{Instr}
use Rattle.y86_isa.specs.Table.{no_register, rows, row}

-- the variant that has every instruction
abbrev pub widest : Variant
widest = Full

-- the largest ifun that an instruction is written with: 0 if the icode ignores it
abbrev pub written_top : Row → ℕ
written_top r = if r.ifun_top == 15 then 0 else r.ifun_top

-- a register field that the instruction uses names a register; any other field is 15
abbrev pub NamesRegister : Bool → ℕ → Type 0
NamesRegister used field = MatchBool used (field < no_register) (field ≡ no_register)

-- the fields are those of an instruction with this row
pub record FitsRow (r : Row) (i : Instr) : Type 0 where
  pub ifun : i.ifun ≤ written_top r
  pub field_a : NamesRegister r.uses_a i.r_a
  pub field_b : NamesRegister r.uses_b i.r_b
  pub constant : r.has_const ≡ false → i.val_c ≡ 0

-- an instruction of the variant, written in the one way that has no unused part
pub record IsValid (v : Variant) (i : Instr) : Type 0 where
  pub known : i.icode < length (rows v)
  pub fits : FitsRow (row v i.icode) i

-- the bytes of an instruction with this row: icode and ifun, the register fields, the constant with its lowest byte first
abbrev pub encoded_by : Row → Instr → List ℕ
encoded_by r i =
    (16 * i.icode + i.ifun) ∷ ((if r.has_byte then (16 * i.r_a + i.r_b) ∷ [] else []) ++ (if r.has_const then to_le_bytes w64 i.val_c else []))

unfoldable pub encoded : Instr → List ℕ
encoded i = encoded_by (row widest i.icode) i

-- the memory holds these bytes from an address on
abbrev pub Holds : List ℕ → ℕ → List ℕ → Type 0
Holds memory address bytes = take (length bytes) (drop address memory) ≡ bytes

-- the fields into which an instruction at a PC is split
abbrev pub fields_of : Instr → ℕ → Fetched
fields_of i pc =
    record { error = false; icode = i.icode; ifun = i.ifun; r_a = i.r_a; r_b = i.r_b; val_c = i.val_c; val_p = (pc + length (encoded i)) % 2 ^ 64 }
