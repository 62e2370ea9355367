-- The effect of a step, by the work of its instruction, also if the instruction stops.
use Rattle.std.proofs.Common.{◌≡◌, ℕ, ◌<◌, ◌⊎◌, inl, inr, Bool, true, false, not, ◌&&◌, ◌||◌, ◌==◌, cond, List, None, refl, sym, ap, ◌∙◌, arith}
use Rattle.std.proofs.lemmas.Bool.{cases_Bool, eqb-true}
use Rattle.y86_base.specs.declared.parts.Flags.{Flags}
use Rattle.y86_base.specs.declared.parts.Stat.{Stat}
use Rattle.y86_base.specs.declared.parts.Stat.TheVariants.{Aok, Hlt, Adr, Ins}
use Rattle.y86_base.specs.declared.parts.Variant.{Variant}
use Rattle.y86_base.specs.declared.parts.Variant.TheVariants.{Base, Full}
use Rattle.y86_isa.specs.declared.columns.RegisterColumn.{RegisterColumn}
use Rattle.y86_isa.specs.declared.columns.RegisterColumn.TheVariants.{Dash, FieldA, FieldB, Stack}
use Rattle.y86_isa.specs.declared.columns.MemoryColumn.{MemoryColumn}
use Rattle.y86_isa.specs.declared.columns.MemoryColumn.TheVariants.{NoMem, StoreA, StoreP, LoadE, LoadA}
use Rattle.y86_isa.specs.declared.fetch.Reading.{Reading}
use Rattle.y86_isa.specs.declared.machine.Machine.{Machine}
use Rattle.y86_isa.specs.Table.{ihalt, inop, iinvalid, row}
use Rattle.y86_isa.specs.RowTests.{is_dash, is_field_a, is_field_b, is_used, accesses}
use Rattle.y86_isa.specs.Machine.{is_aok}
use Rattle.y86_isa.specs.Blocks.{register_number, reading, fetched, fetch_status, flags_after, is_load, is_store, data_error, data_store, stored}
use Rattle.y86_isa.specs.Work.{work}
use Rattle.y86_isa.specs.Step.{advance}
use Rattle.y86_isa.specs.Run.{IsImage}
use Rattle.y86_isa.specs.Laws.{IsReading, DoesNothing}
use Rattle.y86_isa.proofs.RowsAgree.{accesses_agree, fields_agree}
use Rattle.y86_isa.proofs.Records.{advance-goes, advance-stops}
use Rattle.y86_isa.proofs.WhatIsRead.{IsReading-reading, IsFields-fetched}
use Rattle.y86_isa.proofs.Works.{FollowsRow-work}

-- ---- an instruction that is bad at its fetch does nothing

record BadRows (v : Variant) : Type 0 where
  halt : DoesNothing (row v ihalt)
  nop : DoesNothing (row v inop)
  invalid : DoesNothing (row v iinvalid)

bad_rows : (v : Variant) → BadRows v
unfolding row
bad_rows Base =
    let nothing : DoesNothing (row Base ihalt) = record { operand = refl; access = refl; branch = refl; loaded = refl; flags = refl } in
    record { halt = nothing; nop = record { operand = refl; access = refl; branch = refl; loaded = refl; flags = refl }; invalid = record { operand = refl; access = refl; branch = refl; loaded = refl; flags = refl } }
bad_rows Full =
    record {
      halt = record { operand = refl; access = refl; branch = refl; loaded = refl; flags = refl };
      nop = record { operand = refl; access = refl; branch = refl; loaded = refl; flags = refl };
      invalid = record { operand = refl; access = refl; branch = refl; loaded = refl; flags = refl };
    }

bad_codes : (error invalid halt : Bool) → is_aok (cond error Adr (cond invalid Ins (cond halt Hlt Aok))) ≡ false → (error ≡ true) ⊎ (invalid ≡ true) ⊎ (halt ≡ true)
bad_codes true invalid halt h = inl refl
bad_codes false true halt h = inr (inl refl)
bad_codes false false true h = inr (inr refl)
bad_codes false false false h = cc

bad_by : (v : Variant) (read : Reading) → IsReading v read → is_aok (fetch_status read.error read.icode) ≡ false → DoesNothing (row v read.icode)
bad_by v read r h =
    elim (bad_codes read.error (read.icode == iinvalid) (read.icode == ihalt) h) [
      | inl e ↦ rw ((r.outside e).0) (bad_rows v).nop
      | inr o ↦ elim o [ inl e ↦ rw (eqb-true _ _ e) (bad_rows v).invalid | inr e ↦ rw (eqb-true _ _ e) (bad_rows v).halt ]
    ]

pub does_nothing-from_bad : (v : Variant) (m : Machine) → is_aok (work v m).fetch_stat ≡ false → DoesNothing (row v (work v m).icode)
unfolding work fetched
does_nothing-from_bad v m h = bad_by v (reading v m.mem m.pc) (IsReading-reading v m.mem m.pc) h

-- ---- an instruction that stops stores nothing and sets no flag

why : (fault : Bool) (s t : Stat) → t ≡ cond fault Adr s → is_aok t ≡ false → (is_aok s ≡ false) ⊎ (fault ≡ true)
why true s t e h = inr refl
why false s t e h = inl (rw (← e) h)

-- it stops at its fetch, or at memory
pub why_stops : (v : Variant) (m : Machine) → is_aok (work v m).stat ≡ false → (is_aok (work v m).fetch_stat ≡ false) ⊎ ((work v m).fault ≡ true)
why_stops v m h = why (work v m).fault (work v m).fetch_stat (work v m).stat (FollowsRow-work v m).stat h

no_store : (a : MemoryColumn) (address word : ℕ) (fault : Bool) → accesses a ≡ false → data_store address word (is_store a) fault ≡ None
unfolding data_store
no_store NoMem address word fault h = refl
no_store StoreA address word fault h = cc
no_store StoreP address word fault h = cc
no_store LoadE address word fault h = cc
no_store LoadA address word fault h = cc

fault_store : (writes fault : Bool) (address word : ℕ) → fault ≡ true → data_store address word writes fault ≡ None
unfolding data_store
fault_store true true address word h = refl
fault_store true false address word h = cc
fault_store false fault address word h = refl

pub store-stops : (v : Variant) (m : Machine) → is_aok (work v m).stat ≡ false → (work v m).store ≡ None
store-stops v m h =
    elim (why_stops v m h) [
      | inl bad ↦ (FollowsRow-work v m).store ∙ no_store (row v (work v m).icode).memory _ _ _ (does_nothing-from_bad v m bad).access
      | inr fault ↦ (FollowsRow-work v m).store ∙ fault_store _ _ _ _ fault
    ]

error_access : (a : MemoryColumn) (memory : List ℕ) (address : ℕ) → data_error memory address (is_load a) (is_store a) ≡ true → accesses a ≡ true
unfolding data_error
error_access NoMem memory address h = cc
error_access StoreA memory address h = refl
error_access StoreP memory address h = refl
error_access LoadE memory address h = refl
error_access LoadA memory address h = refl

pub access-from_fault : (v : Variant) (m : Machine) → (work v m).fault ≡ true → accesses (row v (work v m).icode).memory ≡ true
access-from_fault v m h = error_access (row v (work v m).icode).memory _ _ (sym (FollowsRow-work v m).fault ∙ h)

kept_flags : (sets : Bool) (f a b : ℕ) (before : Flags) → sets ≡ false → flags_after sets f a b before ≡ before
kept_flags sets f a b before e = rw e refl

pub flags-stops : (v : Variant) (m : Machine) → is_aok (work v m).stat ≡ false → (work v m).flags ≡ m.flags
flags-stops v m h =
    (FollowsRow-work v m).flags
    ∙ kept_flags _ _ _ _ _ (elim (why_stops v m h) [
      | inl bad ↦ (does_nothing-from_bad v m bad).flags
      | inr fault ↦ (accesses_agree v (work v m).icode).flags (access-from_fault v m fault)
    ])

-- ---- so memory and flags after a step are as its work says, whether it stops or not

pub mem-by_work : (v : Variant) (m : Machine) → is_aok m.stat ≡ true → (advance v m).mem ≡ stored m.mem (work v m).store
unfolding stored
mem-by_work v m live =
    elim (cases_Bool (is_aok (work v m).stat)) [
      | inl on ↦ ap (λ n. n.mem) (advance-goes v m live on)
      | inr off ↦ ap (λ n. n.mem) (advance-stops v m live off) ∙ rw (store-stops v m off) refl
    ]

pub flags-by_work : (v : Variant) (m : Machine) → is_aok m.stat ≡ true → (advance v m).flags ≡ (work v m).flags
flags-by_work v m live =
    elim (cases_Bool (is_aok (work v m).stat)) [
      | inl on ↦ ap (λ n. n.flags) (advance-goes v m live on)
      | inr off ↦ ap (λ n. n.flags) (advance-stops v m live off) ∙ sym (flags-stops v m off)
    ]

-- ---- a column that isn't a dash names a register

-- if a column has an operand, the number that it names is a register
pub number_lt : (field : RegisterColumn) (ua ub : Bool) (r_a r_b : ℕ) → ((not (is_field_a field) || ua) && (not (is_field_b field) || ub)) ≡ true →
    (ua ≡ true → r_a < 15) → (ub ≡ true → r_b < 15) → is_dash field ≡ false → register_number field r_a r_b < 15
number_lt Dash ua ub r_a r_b n a b h = cc
number_lt FieldA true ub r_a r_b n a b h = a refl
number_lt FieldA false ub r_a r_b n a b h = cc
number_lt FieldB ua true r_a r_b n a b h = b refl
number_lt FieldB ua false r_a r_b n a b h = cc
number_lt Stack ua ub r_a r_b n a b h = omega arith

pub register_number-lt : (v : Variant) (m : Machine) (field : RegisterColumn) → IsImage m.mem → is_used (row v (work v m).icode) field ≡ true → is_dash field ≡ false →
    register_number field (work v m).r_a (work v m).r_b < 15
unfolding work
register_number-lt v m field h used some =
    let fields = IsFields-fetched v m.mem m.pc h in
    number_lt field _ _ _ _ used fields.used_a fields.used_b some

pub src_a-lt : (v : Variant) (m : Machine) → IsImage m.mem → is_dash (row v (work v m).icode).src_a ≡ false → (work v m).src_a < 15
src_a-lt v m h some =
    rw (FollowsRow-work v m).src_a (register_number-lt v m (row v (work v m).icode).src_a h (fields_agree v (work v m).icode).src_a some)

pub src_b-lt : (v : Variant) (m : Machine) → IsImage m.mem → is_dash (row v (work v m).icode).src_b ≡ false → (work v m).src_b < 15
src_b-lt v m h some =
    rw (FollowsRow-work v m).src_b (register_number-lt v m (row v (work v m).icode).src_b h (fields_agree v (work v m).icode).src_b some)
