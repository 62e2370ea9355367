-- Laws of PIPE's fields.
use Rattle.std.proofs.Common.{◌≡◌, ℕ, ◌&&◌, Bool, true, List, Some, refl, ◌∙◌, ap, arith}
use Rattle.std.proofs.lemmas.Bool.Decides.{nat_tests}
use Rattle.net_fields.proofs.Patterns.{pattern_of, decoded_range}
use Rattle.net_fields.proofs.Places.{place_of}
use Rattle.net_fields.specs.FieldSpecs.{decoded, number_among}
use Rattle.net_fields.specs.declared.field_specs.BitRange.{BitRange}
use Rattle.pipe_fields.specs.Allowed.{allowed, stage_allowed, fetch_allowed, decode_allowed, execute_allowed, memory_allowed, write_allowed}
use Rattle.pipe_fields.specs.Laws.{HasNoRegisters, IsPatternOf, IsPlaceOf, of_bubbles}
use Rattle.pipe_fields.specs.Layout as layout
use Rattle.pipe_fields.specs.Layout.{FetchLine, DecodeLine, ExecuteLine, MemoryLine, WriteLine, Fields, InRange, field_specs, numbers, fields_by, fields_of, number_of}
use Rattle.y86_base.specs.declared.parts.Variant.{Variant}

pub has_pattern : (c : Fields) (behind : List Bool) → InRange c → IsPatternOf c behind
unfolding fields_of
has_pattern c behind h =
    let p = pattern_of field_specs (numbers c) behind h in
    record { spells = ap fields_by p.spells; size = p.size; later = p.behind }

pub in_range : (w : List Bool) → InRange (fields_of w)
unfolding fields_of
in_range w = decoded_range field_specs 0 w

pub numbers_of : (w : List Bool) → numbers (fields_of w) ≡ decoded field_specs 0 w
unfolding fields_of
numbers_of w = refl

pub has_place : (name : ℕ) (p : BitRange) → layout.place_of name ≡ Some p → IsPlaceOf name p
unfolding layout.place_of number_of
has_place name p e =
    let h = place_of field_specs name p e in
    record { within = h.within; spells = λ w. ap (λ (xs : List ℕ). number_among field_specs xs name) (numbers_of w) ∙ h.spells w }

-- ---- bubbles

as_bubble : (kinds kind : ℕ) (b fits : Bool) → stage_allowed kinds kind b fits ≡ true → kind ≡ 0 → b ≡ true
as_bubble kinds kind b fits h e = grind (arith, nat_tests)

decode_none : (v : Variant) (x : DecodeLine) → decode_allowed v x ≡ true → x.kind ≡ 0 → (x.r_a ≡ 15) × (x.r_b ≡ 15)
decode_none v x h e = let b = as_bubble _ _ _ _ h e in grind (arith, nat_tests)

execute_none : (v : Variant) (x : ExecuteLine) → execute_allowed v x ≡ true → x.kind ≡ 0 → (x.dst_e ≡ 15) × (x.dst_m ≡ 15)
execute_none v x h e = let b = as_bubble _ _ _ _ h e in grind (arith, nat_tests)

execute_reads_none : (v : Variant) (x : ExecuteLine) → execute_allowed v x ≡ true → x.kind ≡ 0 → (x.src_a ≡ 15) × (x.src_b ≡ 15)
execute_reads_none v x h e = let b = as_bubble _ _ _ _ h e in grind (arith, nat_tests)

memory_none : (v : Variant) (x : MemoryLine) → memory_allowed v x ≡ true → x.kind ≡ 0 → (x.dst_e ≡ 15) × (x.dst_m ≡ 15)
memory_none v x h e = let b = as_bubble _ _ _ _ h e in grind (arith, nat_tests)

write_none : (v : Variant) (x : WriteLine) → write_allowed v x ≡ true → x.kind ≡ 0 → (x.dst_e ≡ 15) × (x.dst_m ≡ 15)
write_none v x h e = let b = as_bubble _ _ _ _ h e in grind (arith, nat_tests)

-- the five lines of an allowed valuation
pub record LinesAllowed (v : Variant) (c : Fields) : Type 0 where
  pub f : fetch_allowed v c.f ≡ true
  pub d : decode_allowed v c.d ≡ true
  pub e : execute_allowed v c.e ≡ true
  pub m : memory_allowed v c.m ≡ true
  pub w : write_allowed v c.w ≡ true

five : (f d e m w : Bool) → (f && d && e && m && w) ≡ true → (f ≡ true) × (d ≡ true) × (e ≡ true) × (m ≡ true) × (w ≡ true)
five true true true true true h = (refl, refl, refl, refl, refl)
five f d e m w h = grind arith

pub lines_allowed : (v : Variant) (c : Fields) → allowed v c ≡ true → LinesAllowed v c
unfolding allowed
lines_allowed v c h =
    let p = five (fetch_allowed v c.f) (decode_allowed v c.d) (execute_allowed v c.e) (memory_allowed v c.m) (write_allowed v c.w) h in
    record { f = p.0; d = p.1; e = p.2; m = p.3; w = p.4 }

pub no_registers : (v : Variant) (c : Fields) → allowed v c ≡ true → HasNoRegisters c
no_registers v c h =
    let p = lines_allowed v c h in
    record {
      decode = decode_none v c.d p.d;
      execute = execute_none v c.e p.e;
      sources = execute_reads_none v c.e p.e;
      memory = memory_none v c.m p.m;
      write = write_none v c.w p.w;
    }

pub start_allowed : (v : Variant) (f : FetchLine) → fetch_allowed v f ≡ true → allowed v (of_bubbles f) ≡ true
unfolding allowed
start_allowed v f h = rw h refl
