-- What pushq and popq do to %rsp itself.
use Rattle.std.proofs.Common.{◌≡◌, ℕ, Bool, true, false, cond, length, Option, Some, None, IfSome, unwrap_or, refl, sym, ap, ◌∙◌, arith}
use Rattle.std.specs.Prelude.{is_none, option_map}
use Rattle.std.proofs.lemmas.Bool.{false≢true}
use Rattle.y86_base.specs.Image.{word_at}
use Rattle.y86_base.specs.Registers.{register, with_register}
use Rattle.y86_base.specs.declared.parts.Stat.{Stat}
use Rattle.y86_base.specs.declared.parts.Stat.TheVariants.{Aok, Adr}
use Rattle.y86_base.specs.declared.parts.Variant.{Variant}
use Rattle.y86_base.specs.declared.parts.Variant.TheVariants.{Base, Full}
use Rattle.y86_isa.specs.declared.columns.Row.{Row}
use Rattle.y86_isa.specs.declared.columns.RegisterColumn.TheVariants.{FieldA, Stack}
use Rattle.y86_isa.specs.declared.columns.MemoryColumn.TheVariants.{StoreA, LoadA}
use Rattle.y86_isa.specs.declared.machine.Machine.{Machine}
use Rattle.y86_isa.specs.declared.machine.Rec.{Rec}
use Rattle.y86_isa.specs.Table.{row}
use Rattle.y86_isa.specs.Machine.{is_aok}
use Rattle.y86_isa.specs.Blocks.{fetched, data_error, data_read, data_store}
use Rattle.y86_isa.specs.Work.{work}
use Rattle.y86_isa.specs.Step.{advance, retired}
use Rattle.y86_isa.specs.Run.{IsMachine}
use Rattle.y86_isa.specs.Laws.{PushStoresOld, PopLeavesLoaded}
use Rattle.y86_isa.proofs.Changes.{record_icode, record_stat}
use Rattle.y86_base.proofs.Memories.{length-with_register, register-with_register}
use Rattle.y86_isa.proofs.Steps.{Advances, advances}
use Rattle.y86_isa.proofs.Steps.Advances.{stays, stops, goes}
use Rattle.y86_isa.proofs.Works.{FollowsFetch-work, FollowsRow-work}

record IsPush (r : Row) : Type 0 where
  memory : r.memory ≡ StoreA
  src_a : r.src_a ≡ FieldA

record IsPop (r : Row) : Type 0 where
  memory : r.memory ≡ LoadA
  src_a : r.src_a ≡ Stack
  dst_m : r.dst_m ≡ FieldA

push_row : (v : Variant) → IsPush (row v 10)
unfolding row
push_row Base = record { memory = refl; src_a = refl }
push_row Full = record { memory = refl; src_a = refl }

pop_row : (v : Variant) → IsPop (row v 11)
unfolding row
pop_row Base = record { memory = refl; src_a = refl; dst_m = refl }
pop_row Full = record { memory = refl; src_a = refl; dst_m = refl }

no_fault : (fault : Bool) (s t : Stat) → t ≡ cond fault Adr s → is_aok t ≡ true → fault ≡ false
no_fault true s t e h = cc
no_fault false s t e h = refl

pub fault-from_aok : (v : Variant) (m : Machine) → is_aok (work v m).stat ≡ true → (work v m).fault ≡ false
fault-from_aok v m h = no_fault _ _ _ (FollowsRow-work v m).stat h

pushed : (v : Variant) (m : Machine) → is_aok (work v m).stat ≡ true → (work v m).icode ≡ 10 → (work v m).r_a ≡ 4 →
    option_map (λ store. store.word) (work v m).store ≡ Some (register m.regs 4)
unfolding data_store
pushed v m ok e a =
    let f = FollowsRow-work v m in
    let source : (work v m).src_a ≡ 4 = rw (f.src_a, e, (push_row v).src_a) a in
    rw (f.store, fault-from_aok v m ok, e, (push_row v).memory) (ap Some (f.val_a ∙ ap (register m.regs) source))

push_case : (v : Variant) (m after : Machine) (r : Option Rec) → Advances v m after r →
    IfSome r (λ x. x.stat ≡ Aok → x.icode ≡ 10 → (fetched v m.mem m.pc).r_a ≡ 4 → option_map (λ store. store.word) x.store ≡ Some (register m.regs 4))
push_case v m _ _ (stays e) = tt
push_case v m _ _ (stops e w) = λ ok icode a. absurd (false≢true (sym w ∙ ap is_aok (sym (record_stat v m) ∙ ok)))
push_case v m _ _ (goes e w) = λ ok icode a. rw w (pushed v m w (sym (record_icode v m) ∙ icode) ((FollowsFetch-work v m).r_a ∙ a))

pub PushStoresOld-advance : (v : Variant) (m : Machine) → PushStoresOld v m
PushStoresOld-advance v m = push_case v m (advance v m) (retired v m) (advances v m)

-- ---- popq

loaded_word : (o : Option ℕ) → is_none o ≡ false → o ≡ Some (unwrap_or o 0)
loaded_word None h = cc
loaded_word (Some word) h = refl

popped : (v : Variant) (m : Machine) → length m.regs ≡ 15 → is_aok (work v m).stat ≡ true → (work v m).icode ≡ 11 → (work v m).r_a ≡ 4 →
    word_at m.mem (register m.regs 4)
    ≡ Some (register (with_register (with_register m.regs (work v m).dst_e (work v m).val_e) (work v m).dst_m (work v m).val_m) 4)
unfolding data_error data_read
popped v m size ok e a =
    let f = FollowsRow-work v m in
    let source : (work v m).src_a ≡ 4 = rw (f.src_a, e, (pop_row v).src_a) refl in
    let address : (work v m).address ≡ register m.regs 4 = rw (f.address, e, (pop_row v).memory) (f.val_a ∙ ap (register m.regs) source) in
    let inside : is_none (word_at m.mem (work v m).address) ≡ false = sym (rw (e, (pop_row v).memory) at f.fault) ∙ fault-from_aok v m ok in
    let val_m : (work v m).val_m ≡ unwrap_or (word_at m.mem (work v m).address) 0 = rw (f.val_m, e, (pop_row v).memory) refl in
    let dst_m : (work v m).dst_m ≡ 4 = rw (f.dst_m, e, (pop_row v).dst_m) a in
    let kept : length (with_register m.regs (work v m).dst_e (work v m).val_e) ≡ 15 = length-with_register m.regs (work v m).dst_e (work v m).val_e ∙ size in
    ap (word_at m.mem) (sym address)
    ∙ (loaded_word (word_at m.mem (work v m).address) inside
    ∙ ap Some (sym val_m ∙ sym (rw dst_m (register-with_register (with_register m.regs (work v m).dst_e (work v m).val_e) 4 (work v m).val_m kept (omega arith)))))

pop_case : (v : Variant) (m after : Machine) (r : Option Rec) → length m.regs ≡ 15 → Advances v m after r →
    IfSome r (λ x. x.stat ≡ Aok → x.icode ≡ 11 → (fetched v m.mem m.pc).r_a ≡ 4 → word_at m.mem (register m.regs 4) ≡ Some (register after.regs 4))
pop_case v m _ _ size (stays e) = tt
pop_case v m _ _ size (stops e w) = λ ok icode a. absurd (false≢true (sym w ∙ ap is_aok (sym (record_stat v m) ∙ ok)))
pop_case v m _ _ size (goes e w) = λ ok icode a. popped v m size w (sym (record_icode v m) ∙ icode) ((FollowsFetch-work v m).r_a ∙ a)

pub PopLeavesLoaded-advance : (v : Variant) (m : Machine) → IsMachine m → PopLeavesLoaded v m
PopLeavesLoaded-advance v m h = pop_case v m (advance v m) (retired v m) h.registers (advances v m)
