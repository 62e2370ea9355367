-- Which readings are possible, and the register fields of what is fetched.
use Rattle.std.proofs.Common.{◌≡◌, ◌≢◌, ℕ, ◌<◌, ◌≤◌, inl, inr, Bool, true, false, ◌&&◌, ◌==◌, List, length, refl, arith}
use Rattle.std.proofs.lemmas.Bool.{and_parts, or_parts, eqb-false, ltb-true, leb-true}
use Rattle.y86_base.specs.declared.parts.Variant.{Variant}
use Rattle.y86_base.specs.declared.parts.Variant.TheVariants.{Base, Full}
use Rattle.y86_isa.specs.declared.columns.Row.{Row}
use Rattle.y86_isa.specs.declared.fetch.Reading.{Reading}
use Rattle.y86_isa.specs.Table.{inop, iinvalid, row, rows}
use Rattle.y86_isa.specs.Blocks.{reading, fetched, fetched_by, field_a, field_b}
use Rattle.y86_isa.specs.Run.{IsImage}
use Rattle.y86_isa.specs.Laws.{IsReading, IsFields}
use Rattle.y86_isa.proofs.Readings.{ReadsAs, reads_as}
use Rattle.y86_isa.proofs.Readings.ReadsAs.{first_outside, bad_first, later_outside, no_register, good}
use Rattle.y86_isa.proofs.Words.{field_a-le, field_b-le}

-- a nop has a row
pub nop_known : (v : Variant) → 1 < length (rows v)
nop_known Base = omega arith
nop_known Full = omega arith

reading_case : (v : Variant) (memory : List ℕ) (pc : ℕ) (read : Reading) → ReadsAs v memory pc read → IsReading v read
reading_case v memory pc _ (first_outside e) = record { outside = λ _. (refl, refl); known = inl (nop_known v); ifun = omega arith }
reading_case v memory pc _ (bad_first byte e b) = record { outside = λ h. cc; known = inr (refl, refl); ifun = omega arith }
reading_case v memory pc _ (later_outside byte e b w) = record { outside = λ _. (refl, refl); known = inl (nop_known v); ifun = omega arith }
reading_case v memory pc _ (no_register byte e b w l) = record { outside = λ h. cc; known = inr (refl, refl); ifun = omega arith }
reading_case v memory pc _ (good byte e b w l) =
    record { outside = λ h. cc; known = inl (ltb-true _ _ (and_parts _ _ b).0); ifun = leb-true _ _ (and_parts _ _ b).1 }

pub IsReading-reading : (v : Variant) (memory : List ℕ) (pc : ℕ) → IsReading v (reading v memory pc)
IsReading-reading v memory pc = reading_case v memory pc (reading v memory pc) (reads_as v memory pc)

-- ---- the register fields

no_field_a : (memory : List ℕ) (pc : ℕ) (has : Bool) → has ≡ false → field_a memory pc has ≡ 15
unfolding field_a
no_field_a memory pc has e = rw e refl

no_field_b : (memory : List ℕ) (pc : ℕ) (has : Bool) → has ≡ false → field_b memory pc has ≡ 15
unfolding field_b
no_field_b memory pc has e = rw e refl

used : (uses : Bool) (field : ℕ) → field ≤ 15 → (uses && (field == 15)) ≡ false → uses ≡ true → field < 15
used true field le e h = let ne : field ≢ 15 = eqb-false field 15 e in omega arith
used false field le e h = cc

unused : (uses : Bool) (field : ℕ) → uses ≡ false → uses ≡ true → field < 15
unused true field e h = cc
unused false field e h = cc

unused_fields : (memory : List ℕ) (pc : ℕ) (read : Reading) (r : Row) → r.uses_a ≡ false → r.uses_b ≡ false → IsFields r (fetched_by memory pc read r)
unused_fields memory pc read r a b =
    record { used_a = unused _ _ a; used_b = unused _ _ b; none_a = no_field_a memory pc r.has_byte; none_b = no_field_b memory pc r.has_byte }

pub record UsesNone (r : Row) : Type 0 where
  pub a : r.uses_a ≡ false
  pub b : r.uses_b ≡ false

nop_uses : (v : Variant) → UsesNone (row v inop)
unfolding row
nop_uses Base = record { a = refl; b = refl }
nop_uses Full = record { a = refl; b = refl }

invalid_uses : (v : Variant) → UsesNone (row v iinvalid)
unfolding row
invalid_uses Base = record { a = refl; b = refl }
invalid_uses Full = record { a = refl; b = refl }

fields_case : (v : Variant) (memory : List ℕ) (pc : ℕ) (read : Reading) → IsImage memory → ReadsAs v memory pc read → IsFields (row v read.icode) (fetched_by memory pc read (row v read.icode))
fields_case v memory pc _ h (first_outside e) = unused_fields memory pc _ (row v inop) (nop_uses v).a (nop_uses v).b
fields_case v memory pc _ h (bad_first byte e b) = unused_fields memory pc _ (row v iinvalid) (invalid_uses v).a (invalid_uses v).b
fields_case v memory pc _ h (later_outside byte e b w) = unused_fields memory pc _ (row v inop) (nop_uses v).a (nop_uses v).b
fields_case v memory pc _ h (no_register byte e b w l) = unused_fields memory pc _ (row v iinvalid) (invalid_uses v).a (invalid_uses v).b
fields_case v memory pc _ h (good byte e b w l) =
    record {
      used_a = used _ _ (field_a-le memory pc _ h.bytes) (or_parts _ _ l).0;
      used_b = used _ _ (field_b-le memory pc _ h.bytes) (or_parts _ _ l).1;
      none_a = no_field_a memory pc _;
      none_b = no_field_b memory pc _;
    }

pub IsFields-fetched : (v : Variant) (memory : List ℕ) (pc : ℕ) → IsImage memory → IsFields (row v (fetched v memory pc).icode) (fetched v memory pc)
unfolding fetched
IsFields-fetched v memory pc h = fields_case v memory pc (reading v memory pc) h (reads_as v memory pc)
