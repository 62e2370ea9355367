-- A step, case by case, and what it leaves unchanged.
use Rattle.std.proofs.Common.{◌≡◌, ℕ, ◌+◌, ◌<◌, ◌≤◌, ◌⊎◌, inl, inr, Bool, true, false, cond, List, length, Option, Some, None, slice_get, refl}
use Rattle.std.proofs.lemmas.Bool.{cases_lt}
use Rattle.y86_base.specs.declared.parts.Variant.{Variant}
use Rattle.y86_isa.specs.declared.machine.Machine.{Machine}
use Rattle.y86_isa.specs.declared.machine.Rec.{Rec}
use Rattle.y86_isa.specs.declared.machine.Store.{Store}
use Rattle.y86_isa.specs.Machine.{is_aok}
use Rattle.y86_isa.specs.Blocks.{stored}
use Rattle.y86_isa.specs.Work.{work}
use Rattle.y86_isa.specs.Step.{finished, record_of, step, advance, retired}
use Rattle.y86_isa.specs.Run.{IsImage, IsStoredBy, IsInStore}
use Rattle.y86_isa.proofs.Memories.{length-stored, IsImage-stored, get_or-put_word_other, same_byte}
use Rattle.y86_base.proofs.Memories.{length-put_word}

-- the cases of a step: the machine has stopped, its instruction ends with another status than AOK, or with AOK
pub data Advances (v : Variant) (m : Machine) : Machine → Option Rec → Type 0 where
  stays : is_aok m.stat ≡ false → Advances v m m None
  stops : is_aok m.stat ≡ true → is_aok (work v m).stat ≡ false → Advances v m (record m { stat = (work v m).stat }) (Some (record_of m (work v m)))
  goes : is_aok m.stat ≡ true → is_aok (work v m).stat ≡ true → Advances v m (finished m (work v m)) (Some (record_of m (work v m)))

ending : (v : Variant) (m : Machine) (b : Bool) → is_aok m.stat ≡ true → is_aok (work v m).stat ≡ b →
    Advances v m (cond b (finished m (work v m)) (record m { stat = (work v m).stat })) (Some (record_of m (work v m)))
ending v m true e h = goes e h
ending v m false e h = stops e h

starting : (v : Variant) (m : Machine) (b : Bool) → is_aok m.stat ≡ b → Advances v m (cond b (step v m).0 m) (cond b (Some (step v m).1) None)
starting v m true e = ending v m (is_aok (work v m).stat) e refl
starting v m false e = stays e

pub advances : (v : Variant) (m : Machine) → Advances v m (advance v m) (retired v m)
unfolding advance retired
advances v m = starting v m (is_aok m.stat) refl

-- ---- memory

image_case : (v : Variant) (m after : Machine) (r : Option Rec) → Advances v m after r → IsImage m.mem → IsImage after.mem
image_case v m _ _ (stays e) h = h
image_case v m _ _ (stops e w) h = h
image_case v m _ _ (goes e w) h = IsImage-stored m.mem (work v m).store h

pub IsImage-advance : (v : Variant) (m : Machine) → IsImage m.mem → IsImage (advance v m).mem
IsImage-advance v m h = image_case v m (advance v m) (retired v m) (advances v m) h

size_case : (v : Variant) (m after : Machine) (r : Option Rec) → Advances v m after r → length after.mem ≡ length m.mem
size_case v m _ _ (stays e) = refl
size_case v m _ _ (stops e w) = refl
size_case v m _ _ (goes e w) = length-stored m.mem (work v m).store

pub length-advance : (v : Variant) (m : Machine) → length (advance v m).mem ≡ length m.mem
length-advance v m = size_case v m (advance v m) (retired v m) (advances v m)

beside : (start address : ℕ) → ((start ≤ address) × (address < start + 8) → ⊥) → (address < start) ⊎ (start + 8 ≤ address)
beside start address h =
    elim (cases_lt address start) [
      | inl lt ↦ inl lt
      | inr le ↦ elim (cases_lt address (start + 8)) [ inl lt ↦ absurd (h (le, lt)) | inr above ↦ inr above ]
    ]

beside_store : (memory : List ℕ) (store : Option Store) (address : ℕ) → (IsInStore store address → ⊥) → slice_get (stored memory store) address ≡ slice_get memory address
unfolding stored
beside_store memory None address h = refl
beside_store memory (Some store) address h =
    same_byte (stored memory (Some store)) memory address (length-put_word memory store.addr store.word)
    (get_or-put_word_other memory store.addr store.word address (beside store.addr address h))

memory_case : (v : Variant) (m after : Machine) (r : Option Rec) (address : ℕ) → Advances v m after r → (IsStoredBy r address → ⊥) → slice_get after.mem address ≡ slice_get m.mem address
memory_case v m _ _ address (stays e) h = refl
memory_case v m _ _ address (stops e w) h = refl
memory_case v m _ _ address (goes e w) h = beside_store m.mem (work v m).store address (λ i. h (rw w i))

-- outside the bytes of the record's store, memory is unchanged
pub mem-advance : (v : Variant) (m : Machine) (address : ℕ) → (IsStoredBy (retired v m) address → ⊥) → slice_get (advance v m).mem address ≡ slice_get m.mem address
mem-advance v m address h = memory_case v m (advance v m) (retired v m) address (advances v m) h
