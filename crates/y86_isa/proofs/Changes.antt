-- Which of the registers, the flags and the PC a step may change.
use Rattle.std.proofs.Common.{◌≡◌, ◌≢◌, ℕ, ◌+◌, ◌%◌, ◌^◌, ◌⊎◌, inl, inr, Bool, true, false, cond, ◌||◌, List, Option, IfSome, refl, sym, ap, ◌∙◌, arith}
use Rattle.std.proofs.lemmas.Bool.{false≢true}
use Rattle.y86_base.specs.Registers.{register, with_register}
use Rattle.y86_base.proofs.Memories.{register-with_register_other, no_register}
use Rattle.y86_base.specs.declared.parts.Stat.TheVariants.{Aok}
use Rattle.y86_base.specs.declared.parts.Variant.{Variant}
use Rattle.y86_isa.specs.declared.columns.RegisterColumn.{RegisterColumn}
use Rattle.y86_isa.specs.declared.columns.RegisterColumn.TheVariants.{Dash, FieldA, FieldB, Stack}
use Rattle.y86_isa.specs.declared.columns.NextPcColumn.TheVariants.{Fall}
use Rattle.y86_isa.specs.declared.machine.Machine.{Machine}
use Rattle.y86_isa.specs.declared.machine.Rec.{Rec}
use Rattle.y86_isa.specs.RowTests.{is_dash, is_stack}
use Rattle.y86_isa.specs.Table.{row}
use Rattle.y86_isa.specs.Machine.{is_aok}
use Rattle.y86_isa.specs.Blocks.{register_number, destination_e, behind, fetched, reading}
use Rattle.y86_isa.specs.Work.{work}
use Rattle.y86_isa.specs.Step.{finished, machine_after, raw_record, record_of, advance, retired}
use Rattle.y86_isa.specs.Laws.{ChangesOneRegister, KeepsFlags, FallsThrough}
use Rattle.y86_isa.proofs.Rows.{one_destination, row-length}
use Rattle.y86_isa.proofs.Normal.{kept_by_normal}
use Rattle.y86_isa.proofs.Steps.{Advances, advances}
use Rattle.y86_isa.proofs.Steps.Advances.{stays, stops, goes}

-- ---- registers

-- a write to another register, or to none
register_beside : (registers : List ℕ) (number word n : ℕ) → (n ≢ number) ⊎ (number ≡ 15) → register (with_register registers number word) n ≡ register registers n
register_beside registers number word n (inl ne) = register-with_register_other registers number n word ne
register_beside registers number word n (inr e) = ap (λ rs. register rs n) (no_register registers number word (omega (arith, e))).1

two_beside : (registers : List ℕ) (e word_e m word_m n : ℕ) → (n ≢ e) ⊎ (e ≡ 15) → (n ≢ m) ⊎ (m ≡ 15) →
    register (with_register (with_register registers e word_e) m word_m) n ≡ register registers n
two_beside registers e word_e m word_m n he hm =
    register_beside (with_register registers e word_e) m word_m n hm ∙ register_beside registers e word_e n he

-- the one destination other than %rsp
abbrev the_other : Bool → ℕ → ℕ → ℕ
the_other m_is_none e m = cond m_is_none e m

unmet : (conditional cnd : Bool) → destination_e conditional cnd 15 ≡ 15
unmet true true = refl
unmet true false = refl
unmet false cnd = refl

stack_or_none : (conditional cnd : Bool) (n : ℕ) → n ≢ 4 → (n ≢ destination_e conditional cnd 4) ⊎ (destination_e conditional cnd 4 ≡ 15)
stack_or_none true true n h = inl h
stack_or_none true false n h = inr refl
stack_or_none false cnd n h = inl h

-- a register other than %rsp and that destination is neither of the two destinations
destinations : (dst_e dst_m : RegisterColumn) (r_a r_b : ℕ) (conditional cnd : Bool) → (is_dash dst_m || is_dash dst_e || is_stack dst_e) ≡ true → (n : ℕ) →
    n ≢ 4 → n ≢ the_other (is_dash dst_m) (destination_e conditional cnd (register_number dst_e r_a r_b)) (register_number dst_m r_a r_b) →
    ((n ≢ destination_e conditional cnd (register_number dst_e r_a r_b)) ⊎ (destination_e conditional cnd (register_number dst_e r_a r_b) ≡ 15))
    × ((n ≢ register_number dst_m r_a r_b) ⊎ (register_number dst_m r_a r_b ≡ 15))
destinations dst_e Dash r_a r_b conditional cnd h n n4 ne = (inl ne, inr refl)
destinations Dash FieldA r_a r_b conditional cnd h n n4 ne = (inr (unmet conditional cnd), inl ne)
destinations Dash FieldB r_a r_b conditional cnd h n n4 ne = (inr (unmet conditional cnd), inl ne)
destinations Dash Stack r_a r_b conditional cnd h n n4 ne = (inr (unmet conditional cnd), inl ne)
destinations Stack FieldA r_a r_b conditional cnd h n n4 ne = (stack_or_none conditional cnd n n4, inl ne)
destinations Stack FieldB r_a r_b conditional cnd h n n4 ne = (stack_or_none conditional cnd n n4, inl ne)
destinations Stack Stack r_a r_b conditional cnd h n n4 ne = (stack_or_none conditional cnd n n4, inl ne)
destinations FieldA FieldA r_a r_b conditional cnd h n n4 ne = cc
destinations FieldA FieldB r_a r_b conditional cnd h n n4 ne = cc
destinations FieldA Stack r_a r_b conditional cnd h n n4 ne = cc
destinations FieldB FieldA r_a r_b conditional cnd h n n4 ne = cc
destinations FieldB FieldB r_a r_b conditional cnd h n n4 ne = cc
destinations FieldB Stack r_a r_b conditional cnd h n n4 ne = cc

changed_by : Variant → Machine → ℕ
changed_by v m = the_other (is_dash (row v (work v m).icode).dst_m) (work v m).dst_e (work v m).dst_m

registers_done : (v : Variant) (m : Machine) (n : ℕ) → n ≢ 4 → n ≢ changed_by v m → register (finished m (work v m)).regs n ≡ register m.regs n
unfolding work changed_by
registers_done v m n n4 ne =
    let f = fetched v m.mem m.pc in
    let r = row v f.icode in
    let sides = destinations r.dst_e r.dst_m f.r_a f.r_b r.conditional _ (one_destination v f.icode) n n4 ne in
    two_beside m.regs _ _ _ _ n sides.0 sides.1

registers_case : (v : Variant) (m after : Machine) (r : Option Rec) → Advances v m after r → ChangesOneRegister m.regs after.regs
registers_case v m _ _ (stays e) = record { changed = 4; others = λ n _ _. refl }
registers_case v m _ _ (stops e w) = record { changed = 4; others = λ n _ _. refl }
registers_case v m _ _ (goes e w) = record { changed = changed_by v m; others = registers_done v m }

pub ChangesOneRegister-advance : (v : Variant) (m : Machine) → ChangesOneRegister m.regs (advance v m).regs
ChangesOneRegister-advance v m = registers_case v m (advance v m) (retired v m) (advances v m)

-- ---- flags

pub record_icode : (v : Variant) (m : Machine) → (record_of m (work v m)).icode ≡ (work v m).icode
record_icode v m = (kept_by_normal (raw_record m.pc (work v m) (machine_after m (work v m)).flags)).icode

pub record_stat : (v : Variant) (m : Machine) → (record_of m (work v m)).stat ≡ (work v m).stat
record_stat v m = (kept_by_normal (raw_record m.pc (work v m) (machine_after m (work v m)).flags)).stat

flags_kept : (v : Variant) (m : Machine) → (row v (work v m).icode).sets_flags ≡ false → (work v m).flags ≡ m.flags
unfolding work
flags_kept v m unset = rw unset refl

-- the flags are kept if the row of the record's icode doesn't set them
flags_case : (v : Variant) (m after : Machine) (r : Option Rec) → Advances v m after r → IfSome r (λ x. (row v x.icode).sets_flags ≡ false → after.flags ≡ m.flags)
flags_case v m _ _ (stays e) = tt
flags_case v m _ _ (stops e w) = λ unset. refl
flags_case v m _ _ (goes e w) = λ unset. flags_kept v m (sym (ap (λ i. (row v i).sets_flags) (record_icode v m)) ∙ unset)

pub KeepsFlags-advance : (v : Variant) (m : Machine) → KeepsFlags v m
KeepsFlags-advance v m = flags_case v m (advance v m) (retired v m) (advances v m)

-- ---- the PC

next_falls : (v : Variant) (m : Machine) → (row v (work v m).icode).next ≡ Fall → (work v m).next_pc ≡ (m.pc + (row v (work v m).icode).length) % 2 ^ 64
unfolding work fetched behind
next_falls v m e = rw (e, row-length v (reading v m.mem m.pc).icode) (ap (λ n. n % 2 ^ 64) (omega arith))

pc_case : (v : Variant) (m after : Machine) (r : Option Rec) → Advances v m after r →
    IfSome r (λ x. x.stat ≡ Aok → (row v x.icode).next ≡ Fall → after.pc ≡ (m.pc + (row v x.icode).length) % 2 ^ 64)
pc_case v m _ _ (stays e) = tt
pc_case v m _ _ (stops e w) = λ aok falls. absurd (false≢true (sym w ∙ ap is_aok (sym (record_stat v m) ∙ aok)))
pc_case v m _ _ (goes e w) = λ aok falls.
    rw (record_icode v m) (next_falls v m (sym (ap (λ i. (row v i).next) (record_icode v m)) ∙ falls))

pub FallsThrough-advance : (v : Variant) (m : Machine) → FallsThrough v m
FallsThrough-advance v m = pc_case v m (advance v m) (retired v m) (advances v m)
