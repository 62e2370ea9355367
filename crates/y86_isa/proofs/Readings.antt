-- How an instruction is read, case by case.
use Rattle.std.proofs.Common.{◌≡◌, ℕ, ◌+◌, Bool, true, false, not, cond, nat_le, List, length, Option, Some, None, slice_get, refl}
use Rattle.y86_base.specs.declared.parts.Variant.{Variant}
use Rattle.y86_isa.specs.declared.fetch.Reading.{Reading}
use Rattle.y86_isa.specs.Table.{row, is_instruction}
use Rattle.y86_isa.specs.Blocks.{high_half, low_half, lacks_register, outside, invalid, reading}

-- the cases of a reading, in their order
pub data ReadsAs (v : Variant) (memory : List ℕ) (pc : ℕ) : Reading → Type 0 where
  first_outside : slice_get memory pc ≡ None → ReadsAs v memory pc outside
  bad_first : (byte : ℕ) → slice_get memory pc ≡ Some byte → is_instruction v (high_half byte) (low_half byte) ≡ false → ReadsAs v memory pc invalid
  later_outside : (byte : ℕ) → slice_get memory pc ≡ Some byte → is_instruction v (high_half byte) (low_half byte) ≡ true →
      nat_le (pc + (row v (high_half byte)).length) (length memory) ≡ false → ReadsAs v memory pc outside
  no_register : (byte : ℕ) → slice_get memory pc ≡ Some byte → is_instruction v (high_half byte) (low_half byte) ≡ true →
      nat_le (pc + (row v (high_half byte)).length) (length memory) ≡ true → lacks_register memory pc (row v (high_half byte)) ≡ true → ReadsAs v memory pc invalid
  good : (byte : ℕ) → slice_get memory pc ≡ Some byte → is_instruction v (high_half byte) (low_half byte) ≡ true →
      nat_le (pc + (row v (high_half byte)).length) (length memory) ≡ true → lacks_register memory pc (row v (high_half byte)) ≡ false →
      ReadsAs v memory pc (record { error = false; icode = high_half byte; ifun = low_half byte })

-- the reading of a first byte inside memory, by its three tests
abbrev reading_of : Bool → Bool → Bool → ℕ → ℕ → Reading
reading_of begins whole lacks icode ifun =
    cond (not begins) invalid (cond (not whole) outside (cond lacks invalid (record { error = false; icode = icode; ifun = ifun })))

by_tests : (v : Variant) (memory : List ℕ) (pc byte : ℕ) → slice_get memory pc ≡ Some byte → (begins whole lacks : Bool) →
    is_instruction v (high_half byte) (low_half byte) ≡ begins → nat_le (pc + (row v (high_half byte)).length) (length memory) ≡ whole →
    lacks_register memory pc (row v (high_half byte)) ≡ lacks → ReadsAs v memory pc (reading_of begins whole lacks (high_half byte) (low_half byte))
by_tests v memory pc byte e false whole lacks b w l = bad_first byte e b
by_tests v memory pc byte e true false lacks b w l = later_outside byte e b w
by_tests v memory pc byte e true true true b w l = no_register byte e b w l
by_tests v memory pc byte e true true false b w l = good byte e b w l

by_first : (v : Variant) (memory : List ℕ) (pc : ℕ) (first : Option ℕ) → slice_get memory pc ≡ first → ReadsAs v memory pc (reading v memory pc)
unfolding reading
by_first v memory pc None e = rw e (first_outside e)
by_first v memory pc (Some byte) e = rw e (by_tests v memory pc byte e _ _ _ refl refl refl)

pub reads_as : (v : Variant) (memory : List ℕ) (pc : ℕ) → ReadsAs v memory pc (reading v memory pc)
reads_as v memory pc = by_first v memory pc (slice_get memory pc) refl
