-- What a machine computes fits its words, so no number exceeds 64 bits.
use Rattle.std.proofs.Common.{◌≡◌, ℕ, zero, suc, ◌+◌, ◌%◌, ◌^◌, ◌<◌, ◌≤◌, inl, inr, Bool, true, false, cond, nat_lt, nat_le, ◌==◌, List, length, take, drop, get_or, Option, Some, None, unwrap_or, All, refl, ◌∙◌, arith}
use Rattle.std.specs.Prelude.{slice_set}
use Rattle.std.specs.Int.{from_le_bytes, w64}
use Rattle.std.specs.Int.Bits.{and_lt}
use Rattle.std.proofs.lemmas.Nat.{xor_lt}
use Rattle.std.proofs.lemmas.Bool.{cond_both, cases_lt, ltb-true}
use Rattle.std.proofs.lemmas.List.{get_or_past}
use Rattle.std.proofs.lemmas.Option.{unwrap_or-slice_get}
use Rattle.std.proofs.lemmas.List.Elements.{All-set, All-take, All-drop, All-replicate}
use Rattle.y86_base.specs.Image.{word_at}
use Rattle.y86_base.specs.Registers.{register, with_register}
use Rattle.y86_base.specs.declared.parts.Variant.{Variant}
use Rattle.y86_isa.specs.declared.columns.NextPcColumn.{NextPcColumn}
use Rattle.y86_isa.specs.declared.columns.NextPcColumn.TheVariants.{Itself, Fall, Branch, Target, Loaded}
use Rattle.y86_isa.specs.declared.columns.AluAColumn.{AluAColumn}
use Rattle.y86_isa.specs.declared.columns.AluAColumn.TheVariants.{NoA, ValA, ValC, Minus8, Plus8}
use Rattle.y86_isa.specs.declared.columns.AluBColumn.{AluBColumn}
use Rattle.y86_isa.specs.declared.columns.AluBColumn.TheVariants.{NoB, Zero, ValB}
use Rattle.y86_isa.specs.declared.machine.Machine.{Machine}
use Rattle.y86_isa.specs.declared.machine.Rec.{Rec}
use Rattle.y86_isa.specs.Table.{row}
use Rattle.y86_isa.specs.Machine.{start}
use Rattle.y86_isa.specs.Blocks.{byte_at, word_from, constant_at, field_a, field_b, operand_a, operand_b, alu_value, behind, data_read, next_address, fetched, reading}
use Rattle.y86_isa.specs.Work.{work}
use Rattle.y86_isa.specs.Step.{advance, retired}
use Rattle.y86_isa.specs.Run.{IsImage, IsMachine, FitsFields, run_from}
use Rattle.y86_base.proofs.Memories.{length-with_register}
use Rattle.y86_isa.proofs.Steps.{Advances, advances, IsImage-advance}
use Rattle.y86_isa.proofs.Steps.Advances.{stays, stops, goes}

abbrev IsByte : ℕ → Type 0
IsByte n = n < 256

abbrev IsWord : ℕ → Type 0
IsWord n = n < 2 ^ 64

-- ---- fetched bytes and words

get_or-byte : (bytes : List ℕ) (k : ℕ) → All IsByte bytes → get_or bytes k 0 < 256
get_or-byte bytes k h = elim (cases_lt k (length bytes)) [ inl lt ↦ h k 0 lt | inr le ↦ rw (get_or_past bytes k 0 le) (omega arith) ]

pub byte_at-lt : (memory : List ℕ) (address : ℕ) → All IsByte memory → byte_at memory address < 256
byte_at-lt memory address h = rw (unwrap_or-slice_get memory (address % 2 ^ 64) 0) (get_or-byte memory (address % 2 ^ 64) h)

from_le_bytes-lt : (bytes : List ℕ) → ((k : ℕ) → get_or bytes k 0 < 256) → from_le_bytes w64 bytes < 2 ^ 64
from_le_bytes-lt bytes h = omega (arith, h 0, h 1, h 2, h 3, h 4, h 5, h 6, h 7)

pub word_from-lt : (memory : List ℕ) (address : ℕ) → All IsByte memory → word_from memory address < 2 ^ 64
unfolding word_from
word_from-lt memory address h =
    omega (
      arith,
      byte_at-lt memory (address + 0) h,
      byte_at-lt memory (address + 1) h,
      byte_at-lt memory (address + 2) h,
      byte_at-lt memory (address + 3) h,
      byte_at-lt memory (address + 4) h,
      byte_at-lt memory (address + 5) h,
      byte_at-lt memory (address + 6) h,
      byte_at-lt memory (address + 7) h,
    )

pub constant_at-lt : (memory : List ℕ) (pc : ℕ) (has constant : Bool) → All IsByte memory → constant_at memory pc has constant < 2 ^ 64
unfolding constant_at
constant_at-lt memory pc has true h = word_from-lt memory (pc + cond has 2 1) h
constant_at-lt memory pc has false h = omega arith

pub field_a-le : (memory : List ℕ) (pc : ℕ) (has : Bool) → All IsByte memory → field_a memory pc has ≤ 15
unfolding field_a
field_a-le memory pc true h = omega (arith, byte_at-lt memory (pc + 1) h)
field_a-le memory pc false h = omega arith

pub field_b-le : (memory : List ℕ) (pc : ℕ) (has : Bool) → All IsByte memory → field_b memory pc has ≤ 15
unfolding field_b
field_b-le memory pc true h = omega arith
field_b-le memory pc false h = omega arith

word_at-lt : (memory : List ℕ) (address : ℕ) → All IsByte memory → unwrap_or (word_at memory address) 0 < 2 ^ 64
unfolding word_at
word_at-lt memory address h =
    cond_both (nat_le (address + 8) (length memory)) (Some (from_le_bytes w64 (take 8 (drop address memory)))) None (λ o. unwrap_or o 0 < 2 ^ 64)
    (λ _. from_le_bytes-lt (take 8 (drop address memory)) (λ k. get_or-byte _ k (All-take IsByte 8 (drop address memory) (All-drop IsByte address memory h))))
    (λ _. omega arith)

data_read-lt : (memory : List ℕ) (address : ℕ) (reads : Bool) → All IsByte memory → data_read memory address reads < 2 ^ 64
unfolding data_read
data_read-lt memory address true h = word_at-lt memory address h
data_read-lt memory address false h = omega arith

-- ---- registers and the ALU

register-lt : (registers : List ℕ) (n : ℕ) → length registers ≡ 15 → All IsWord registers → register registers n < 2 ^ 64
unfolding register
register-lt registers n size h =
    cond_both (nat_lt n 15) (get_or registers n 0) 0 IsWord (λ e. h n 0 (omega (arith, ltb-true n 15 e))) (λ _. omega arith)

operand_a-lt : (term : AluAColumn) (val_a val_c : ℕ) → val_a < 2 ^ 64 → val_c < 2 ^ 64 → operand_a term val_a val_c < 2 ^ 64
operand_a-lt NoA val_a val_c a c = omega arith
operand_a-lt ValA val_a val_c a c = a
operand_a-lt ValC val_a val_c a c = c
operand_a-lt Minus8 val_a val_c a c = omega arith
operand_a-lt Plus8 val_a val_c a c = omega arith

operand_b-lt : (term : AluBColumn) (val_b : ℕ) → val_b < 2 ^ 64 → operand_b term val_b < 2 ^ 64
operand_b-lt NoB val_b b = omega arith
operand_b-lt Zero val_b b = omega arith
operand_b-lt ValB val_b b = b

pub alu_value-lt : (f a b : ℕ) → a < 2 ^ 64 → b < 2 ^ 64 → alu_value f a b < 2 ^ 64
unfolding alu_value
alu_value-lt f a b ha hb =
    cond_both (f == 0) _ _ IsWord (λ _. omega arith)
    (λ _. cond_both (f == 1) _ _ IsWord (λ _. omega arith)
    (λ _. cond_both (f == 2) _ _ IsWord (λ _. and_lt 64 b a hb ha)
    (λ _. cond_both (f == 3) _ _ IsWord (λ _. xor_lt 64 b a hb ha) (λ _. omega arith))))

next_address-lt : (next : NextPcColumn) (pc val_p val_c val_m : ℕ) (cnd : Bool) → pc < 2 ^ 64 → val_p < 2 ^ 64 → val_c < 2 ^ 64 → val_m < 2 ^ 64 →
    next_address next pc val_p val_c val_m cnd < 2 ^ 64
next_address-lt Itself pc val_p val_c val_m cnd a b c d = a
next_address-lt Fall pc val_p val_c val_m cnd a b c d = b
next_address-lt Branch pc val_p val_c val_m true a b c d = c
next_address-lt Branch pc val_p val_c val_m false a b c d = b
next_address-lt Target pc val_p val_c val_m cnd a b c d = c
next_address-lt Loaded pc val_p val_c val_m cnd a b c d = d

-- ---- a step and a run

with_register-words : (registers : List ℕ) (n word : ℕ) → All IsWord registers → word < 2 ^ 64 → All IsWord (with_register registers n word)
unfolding with_register
with_register-words registers n word h lt =
    cond_both (nat_lt n 15) (slice_set registers n word) registers (All IsWord) (λ _. All-set IsWord registers n word lt h) (λ _. h)

-- the words of an instruction's work
record HasWords (v : Variant) (m : Machine) : Type 0 where
  val_e : (work v m).val_e < 2 ^ 64
  val_m : (work v m).val_m < 2 ^ 64
  next_pc : (work v m).next_pc < 2 ^ 64

work_words : (v : Variant) (m : Machine) → IsMachine m → HasWords v m
unfolding work fetched behind
work_words v m h =
    let r = row v (reading v m.mem m.pc).icode in
    let c : constant_at m.mem m.pc r.has_byte r.has_const < 2 ^ 64 = constant_at-lt m.mem m.pc r.has_byte r.has_const h.memory.bytes in
    let register_word : (n : ℕ) → register m.regs n < 2 ^ 64 = λ n. register-lt m.regs n h.registers h.words in
    let loaded : (address : ℕ) (reads : Bool) → data_read m.mem address reads < 2 ^ 64 = λ address reads. data_read-lt m.mem address reads h.memory.bytes in
    record {
      val_e = alu_value-lt _ _ _ (operand_a-lt r.alu_a _ _ (register_word _) c) (operand_b-lt r.alu_b _ (register_word _));
      val_m = loaded _ _;
      next_pc = next_address-lt r.next m.pc _ _ _ _ h.pc (omega arith) c (loaded _ _);
    }

machine_case : (v : Variant) (m after : Machine) (r : Option Rec) → Advances v m after r → IsMachine m → IsImage after.mem → IsMachine after
machine_case v m _ _ (stays e) h image = h
machine_case v m _ _ (stops e w) h image = record { memory = h.memory; registers = h.registers; words = h.words; pc = h.pc }
machine_case v m _ _ (goes e w) h image =
    let words = work_words v m h in
    record {
      memory = image;
      registers = length-with_register (with_register m.regs (work v m).dst_e (work v m).val_e) (work v m).dst_m (work v m).val_m
          ∙ (length-with_register m.regs (work v m).dst_e (work v m).val_e ∙ h.registers);
      words = with_register-words (with_register m.regs (work v m).dst_e (work v m).val_e) (work v m).dst_m (work v m).val_m
          (with_register-words m.regs (work v m).dst_e (work v m).val_e h.words words.val_e) words.val_m;
      pc = words.next_pc;
    }

pub IsMachine-advance : (v : Variant) (m : Machine) → IsMachine m → IsMachine (advance v m)
IsMachine-advance v m h = machine_case v m (advance v m) (retired v m) (advances v m) h (IsImage-advance v m h.memory)

pub IsMachine-run_from : (v : Variant) (m : Machine) (n : ℕ) → IsMachine m → IsMachine (run_from v m n)
unfolding run_from
IsMachine-run_from v m zero h = h
IsMachine-run_from v m (suc n) h = IsMachine-run_from v (advance v m) n (IsMachine-advance v m h)

pub IsMachine-start : (image : List ℕ) → IsImage image → IsMachine (start image)
IsMachine-start image h = record { memory = h; registers = refl; words = All-replicate IsWord 15 0 (omega arith); pc = omega arith }

pub FitsFields-fetched : (v : Variant) (memory : List ℕ) (pc : ℕ) → IsImage memory → FitsFields (fetched v memory pc)
unfolding fetched behind
FitsFields-fetched v memory pc h =
    let r = row v (reading v memory pc).icode in
    record {
      r_a = field_a-le memory pc r.has_byte h.bytes;
      r_b = field_b-le memory pc r.has_byte h.bytes;
      val_c = constant_at-lt memory pc r.has_byte r.has_const h.bytes;
      val_p = omega arith;
    }
