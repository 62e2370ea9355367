-- Laws of PIPE's fields.
use Rattle.std.specs.Prelude.{ℕ, ◌≡◌, ◌≤◌, ◌+◌, Bool, false, List, length, get_or}
use Rattle.net_fields.specs.Spelling.{spelt}
use Rattle.net_fields.specs.declared.field_specs.BitRange.{BitRange}
use Rattle.y86_isa.specs.Table.{inop, no_register}
use Rattle.pipe_fields.specs.Layout.{FetchLine, Fields, bubble, bit_count, fields_of, number_of, pattern_of}

-- the pattern spells the fields, and `behind` follows the fields' bits
pub record IsPatternOf (c : Fields) (behind : List Bool) : Type 0 where
  pub spells : fields_of (pattern_of c behind) ≡ c
  pub size : length (pattern_of c behind) ≡ bit_count + length behind
  pub later : (k : ℕ) → get_or (pattern_of c behind) (bit_count + k) false ≡ get_or behind k false

-- the place of a signal is among the fields' bits, and these bits spell its number
pub record IsPlaceOf (name : ℕ) (p : BitRange) : Type 0 where
  pub within : p.first + p.bits ≤ bit_count
  pub spells : (w : List Bool) → number_of (fields_of w) name ≡ spelt w p.first p.bits

-- a bubble writes no register and reads none
pub record HasNoRegisters (c : Fields) : Type 0 where
  pub decode : c.d.kind ≡ bubble → (c.d.r_a ≡ no_register) × (c.d.r_b ≡ no_register)
  pub execute : c.e.kind ≡ bubble → (c.e.dst_e ≡ no_register) × (c.e.dst_m ≡ no_register)
  pub sources : c.e.kind ≡ bubble → (c.e.src_a ≡ no_register) × (c.e.src_b ≡ no_register)
  pub memory : c.m.kind ≡ bubble → (c.m.dst_e ≡ no_register) × (c.m.dst_m ≡ no_register)
  pub write : c.w.kind ≡ bubble → (c.w.dst_e ≡ no_register) × (c.w.dst_m ≡ no_register)

-- the lines of a pipeline that holds bubbles alone, as at the start
abbrev pub of_bubbles : FetchLine → Fields
of_bubbles f =
    record {
      f = f;
      d = record { kind = bubble; stat = 0; icode = inop; ifun = 0; r_a = no_register; r_b = no_register; taken = 0; stops = 0; back = 0 };
      e = record {
        kind = bubble;
        stat = 0;
        icode = inop;
        ifun = 0;
        dst_e = no_register;
        dst_m = no_register;
        src_a = no_register;
        src_b = no_register;
        cnd = 1;
        stops = 0;
        back = 0;
      };
      m = record { kind = bubble; stat = 0; icode = inop; ifun = 0; dst_e = no_register; dst_m = no_register; cnd = 0; error = 0; back = 0 };
      w = record { kind = bubble; stat = 0; icode = inop; dst_e = no_register; dst_m = no_register };
    }
