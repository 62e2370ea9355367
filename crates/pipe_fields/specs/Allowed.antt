-- Which lines a control valuation of PIPE can have, by the row of the icode in each stage.
use Rattle.std.specs.Prelude.{ℕ, Bool, ◌&&◌, ◌||◌, ◌==◌, nat_lt, length, if◌then◌else◌}
use Rattle.y86_base.specs.declared.parts.Variant.{Variant}
use Rattle.y86_isa.specs.declared.columns.Row.{Row}
use Rattle.y86_isa.specs.RowTests.{accesses, next_is_branch}
use Rattle.y86_isa.specs.Table.{rows, row, inop, no_register}
use Rattle.net_fields.specs.AllowedNumbers.{reading_allowed, register_field_allowed, register_allowed, shares_register, destination_allowed, cnd_allowed, cnd_allowed_where, zero_unless, stat_allowed, codes_allowed}
use Rattle.pipe_fields.specs.Layout.{FetchLine, DecodeLine, ExecuteLine, MemoryLine, WriteLine, Fields, bubble, good}

-- ---- the lines of instructions, by the row of their icode, in a table with `count` rows

-- an instruction that is good and has no fault so far; the hidden bits of others are 0
abbrev pub is_good_aok : ℕ → ℕ → Bool
is_good_aok kind stat = kind == good && stat == 1

-- what is fetched; after a fetch error it is a nop, which is no jump and can't stop at memory
unfoldable pub fetch_row_allowed : ℕ → ℕ → Row → FetchLine → Bool
fetch_row_allowed count icode r x =
    reading_allowed count r x.error icode x.ifun
    && cnd_allowed_where (next_is_branch r.next) x.ifun x.taken
    && zero_unless (accesses r.memory) x.stops
    && zero_unless (next_is_branch r.next) x.back

unfoldable pub decode_row_allowed : ℕ → ℕ → Row → DecodeLine → Bool
decode_row_allowed count icode r x =
    codes_allowed count r x.stat icode x.ifun
    && register_field_allowed r.has_byte r.uses_a x.r_a
    && register_field_allowed r.has_byte r.uses_b x.r_b
    && cnd_allowed_where (is_good_aok x.kind x.stat && next_is_branch r.next) x.ifun x.taken
    && zero_unless (is_good_aok x.kind x.stat && accesses r.memory) x.stops
    && zero_unless (is_good_aok x.kind x.stat && next_is_branch r.next) x.back

-- the register numbers after the decode stage; a conditional move counts as if its condition held
abbrev pub registers_allowed : Row → ExecuteLine → Bool
registers_allowed r x =
    register_allowed r.dst_e x.dst_e
    && register_allowed r.dst_m x.dst_m
    && register_allowed r.src_a x.src_a
    && register_allowed r.src_b x.src_b
    && shares_register r x.src_b x.dst_e

unfoldable pub execute_row_allowed : ℕ → ℕ → Row → ExecuteLine → Bool
execute_row_allowed count icode r x =
    codes_allowed count r x.stat icode x.ifun
    && registers_allowed r x
    && cnd_allowed x.ifun x.cnd
    && zero_unless (is_good_aok x.kind x.stat && accesses r.memory) x.stops
    && zero_unless (is_good_aok x.kind x.stat && next_is_branch r.next) x.back

unfoldable pub memory_row_allowed : ℕ → ℕ → Row → MemoryLine → Bool
memory_row_allowed count icode r x =
    codes_allowed count r x.stat icode x.ifun
    && destination_allowed r x.cnd x.dst_e
    && register_allowed r.dst_m x.dst_m
    && cnd_allowed x.ifun x.cnd
    && zero_unless (is_good_aok x.kind x.stat && accesses r.memory) x.error
    && zero_unless (is_good_aok x.kind x.stat && next_is_branch r.next) x.back

-- a conditional move may have lost its destination; a memory error leaves the icode unchanged
unfoldable pub write_row_allowed : ℕ → ℕ → Row → WriteLine → Bool
write_row_allowed count icode r x =
    stat_allowed count (accesses r.memory) x.stat icode
    && (r.conditional && x.dst_e == no_register || register_allowed r.dst_e x.dst_e)
    && register_allowed r.dst_m x.dst_m

-- ---- the lines of bubbles: a nop of status 0 (BUB) without registers

abbrev pub decode_bubble : DecodeLine → Bool
decode_bubble x =
    x.stat == 0 && x.icode == inop && x.ifun == 0 && x.r_a == no_register && x.r_b == no_register && x.taken == 0 && x.stops == 0 && x.back == 0

-- e_Cnd is 1, because the condition of ifun 0 always holds
abbrev pub execute_bubble : ExecuteLine → Bool
execute_bubble x =
    x.stat == 0 && x.icode == inop && x.ifun == 0
    && x.dst_e == no_register && x.dst_m == no_register && x.src_a == no_register && x.src_b == no_register
    && x.cnd == 1 && x.stops == 0 && x.back == 0

-- M_Cnd can be anything
abbrev pub memory_bubble : MemoryLine → Bool
memory_bubble x =
    x.stat == 0 && x.icode == inop && x.ifun == 0 && x.dst_e == no_register && x.dst_m == no_register && x.error == 0 && x.back == 0

abbrev pub write_bubble : WriteLine → Bool
write_bubble x = x.stat == 0 && x.icode == inop && x.dst_e == no_register && x.dst_m == no_register

-- ---- a valuation

-- what a stage holds: a bubble, or an instruction of one of the kinds that the stage can hold
abbrev pub stage_allowed : ℕ → ℕ → Bool → Bool → Bool
stage_allowed kinds kind as_bubble fits = if kind == bubble then as_bubble else nat_lt kind kinds && fits

-- each line by the row of its icode
abbrev pub fetch_allowed : Variant → FetchLine → Bool
fetch_allowed v x = fetch_row_allowed (length (rows v)) x.icode (row v x.icode) x

abbrev pub decode_allowed : Variant → DecodeLine → Bool
decode_allowed v x = stage_allowed 3 x.kind (decode_bubble x) (decode_row_allowed (length (rows v)) x.icode (row v x.icode) x)

abbrev pub execute_allowed : Variant → ExecuteLine → Bool
execute_allowed v x = stage_allowed 3 x.kind (execute_bubble x) (execute_row_allowed (length (rows v)) x.icode (row v x.icode) x)

-- M and W hold no wrong instruction
abbrev pub memory_allowed : Variant → MemoryLine → Bool
memory_allowed v x = stage_allowed 2 x.kind (memory_bubble x) (memory_row_allowed (length (rows v)) x.icode (row v x.icode) x)

abbrev pub write_allowed : Variant → WriteLine → Bool
write_allowed v x = stage_allowed 2 x.kind (write_bubble x) (write_row_allowed (length (rows v)) x.icode (row v x.icode) x)

unfoldable pub allowed : Variant → Fields → Bool
allowed v c = fetch_allowed v c.f && decode_allowed v c.d && execute_allowed v c.e && memory_allowed v c.m && write_allowed v c.w
