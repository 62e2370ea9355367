-- The numbers that the fields of an instruction can have, by the columns of its row.
use Rattle.std.specs.Prelude.{ℕ, Bool, false, not, ◌&&◌, ◌||◌, ◌==◌, nat_lt, nat_le, if◌then◌else◌}
use Rattle.y86_isa.specs.declared.columns.Row.{Row}
use Rattle.y86_isa.specs.declared.columns.RegisterColumn.{RegisterColumn}
use Rattle.y86_isa.specs.declared.columns.RegisterColumn.TheVariants.{Dash, FieldA, FieldB, Stack}
use Rattle.y86_isa.specs.RowTests.{is_field_b}
use Rattle.y86_isa.specs.Table.{ihalt, inop, iinvalid, no_register, stack_pointer}
use Rattle.y86_base.specs.Words.{set}

-- the icode of a reading: one that has a row, or that of an invalid instruction
abbrev pub icode_allowed : ℕ → ℕ → Bool
icode_allowed count icode = nat_lt icode count || icode == iinvalid

-- the fetched icode and ifun: a nop of ifun 0 if there is an error, else an icode with an ifun that it takes
abbrev pub reading_allowed : ℕ → Row → ℕ → ℕ → ℕ → Bool
reading_allowed count r error icode ifun = (if set error then icode == inop && ifun == 0 else icode_allowed count icode) && nat_le ifun r.ifun_top

-- a register field of the register byte: 15 if there is no such byte, a register if the instruction uses it
abbrev pub register_field_allowed : Bool → Bool → ℕ → Bool
register_field_allowed has_byte used n = if has_byte then not used || nat_lt n no_register else n == no_register

-- the number of the register that a column names
abbrev pub register_allowed : RegisterColumn → ℕ → Bool
register_allowed Dash n = n == no_register
register_allowed FieldA n = nat_lt n no_register
register_allowed FieldB n = nat_lt n no_register
register_allowed Stack n = n == stack_pointer

-- srcB and dstE have the same number if both are the field rB
abbrev pub shares_register : Row → ℕ → ℕ → Bool
shares_register r src_b dst_e = not (is_field_b r.src_b && is_field_b r.dst_e) || src_b == dst_e

-- the destination of valE after the condition: a move whose condition doesn't hold has none
abbrev pub destination_allowed : Row → ℕ → ℕ → Bool
destination_allowed r cnd n = if r.conditional && not (set cnd) then n == no_register else register_allowed r.dst_e n

-- the condition's result for an ifun: 0 is unconditional, 1 to 6 may have either result, and larger numbers are no
-- condition
abbrev pub cnd_allowed : ℕ → ℕ → Bool
cnd_allowed ifun cnd = if ifun == 0 then set cnd else nat_lt ifun 7 || not (set cnd)

-- a bit that may be 1 only if may is true
abbrev pub zero_unless : Bool → ℕ → Bool
zero_unless may n = may || not (set n)

-- a bit that can be the condition's result for an ifun if may is true, and is 0 otherwise
abbrev pub cnd_allowed_where : Bool → ℕ → ℕ → Bool
cnd_allowed_where may ifun n = if may then cnd_allowed ifun n else not (set n)

-- status and icode that fit together: 1 an instruction that goes on, 2 a halt, 3 a nop, 4 an invalid one; if faulted is
-- true, 3 also fits every other icode, because an error at memory leaves the icode as it is
abbrev pub stat_allowed : ℕ → Bool → ℕ → ℕ → Bool
stat_allowed count faulted stat icode =
    stat == 1 && (nat_lt ihalt icode && nat_lt icode count)
    || stat == 2 && icode == ihalt
    || stat == 3 && (icode == inop || faulted)
    || stat == 4 && icode == iinvalid

-- status, icode and ifun of an instruction after its fetch
abbrev pub codes_allowed : ℕ → Row → ℕ → ℕ → ℕ → Bool
codes_allowed count r stat icode ifun = stat_allowed count false stat icode && nat_le ifun r.ifun_top && (not (stat == 3) || ifun == 0)
