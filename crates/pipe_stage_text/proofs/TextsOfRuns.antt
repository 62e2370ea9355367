-- The text of a fetch agrees with the status with which the run by instructions ends there.
use Rattle.std.proofs.Common.{◌≡◌, ◌↔◌, ◌⊎◌, inl, inr, ℕ, ◌<◌, ◌≤◌, Bool, true, false, not, ◌==◌, cond, if◌then◌else◌, List, nat_le, nat_lt, refl, sym, ap, ◌∙◌, subst, arith}
use Rattle.std.specs.Prelude.{codes}
use Rattle.std.proofs.lemmas.Bool.Decides.{nat_tests}
use Rattle.std.proofs.lemmas.Bool.{le-leb, and_from}
use Rattle.y86_base.proofs.Booleans.{clash}
use Rattle.y86_base.specs.Words.{set}
use Rattle.y86_base.specs.declared.parts.Stat.{Stat}
use Rattle.y86_base.specs.declared.parts.Stat.TheVariants.{Adr, Aok, Hlt, Ins}
use Rattle.y86_base.specs.declared.parts.Variant.{Variant}
use Rattle.y86_base.specs.declared.parts.Variant.TheVariants.{Full}
use Rattle.y86_isa.specs.Blocks.{fetch_status, fetched as read_at, reading}
use Rattle.y86_isa.specs.Laws.{IsReading}
use Rattle.y86_isa.specs.Machine.{is_aok}
use Rattle.y86_isa.specs.Step.{advance}
use Rattle.y86_isa.specs.Table.{ihalt, iinvalid, row}
use Rattle.y86_isa.specs.Work.{work}
use Rattle.y86_isa.specs.declared.fetch.Reading.{Reading}
use Rattle.y86_isa.specs.declared.machine.Machine.{Machine}
use Rattle.y86_isa.proofs.Effects.{access-from_fault, does_nothing-from_bad}
use Rattle.y86_isa.proofs.Records.{stat-advance}
use Rattle.y86_isa.proofs.Rows.{row-widest, rows_few}
use Rattle.y86_isa.proofs.WhatIsRead.{IsReading-reading}
use Rattle.y86_isa.proofs.Works.{FollowsFetch-work, FollowsRow-work}
use Rattle.hcl_types.specs.declared.term.Term.{Term}
use Rattle.dp_signals.specs.PipeEquations.{Solves}
use Rattle.dp_signals.specs.PipeNames as names
use Rattle.dp_signals.specs.Values.{bit}
use Rattle.dp_signals.specs.declared.pipe_state.PipeState.{PipeState}
use Rattle.dp_signals.proofs.PipeRows.{pipe_hardware_rows}
use Rattle.dp_signals.proofs.Bits.{set_bit}
use Rattle.pipe_stage_text.specs.Instruction.{instruction, is_valid}
use Rattle.pipe_stage_text.specs.Texts.{FetchesWhatIsRead, IsReadAt, IsTextOfRun, TextsAreOfRuns}
use Rattle.pipe_stage_text.specs.StageContents.{fetched}
use Rattle.pipe_stage_text.specs.declared.stage_content.StageContent.{StageContent}
use Rattle.pipe_stage_text.specs.declared.stage_contents.StageContents.{StageContents}
use Rattle.pipe_stage_text.proofs.Texts.{texts_differ}

-- ---- what is read without an error is an instruction, or the icode of an invalid one

below : (icode n : ℕ) → icode < n → n ≤ 13 → nat_lt icode 13 ≡ true
below icode n h h' = grind (arith, nat_tests)

not_15 : (icode n : ℕ) → icode < n → n ≤ 13 → (icode == 15) ≡ false
not_15 icode n h h' = grind (arith, nat_tests)

abbrev Kind : ℕ → ℕ → Type 0
Kind icode ifun = ((is_valid icode ifun ≡ true) × ((icode == 15) ≡ false)) ⊎ ((is_valid icode ifun ≡ false) × ((icode == 15) ≡ true))

invalid_kind : (icode ifun : ℕ) → icode ≡ 15 → Kind icode ifun
invalid_kind icode ifun e = inr (rw e (refl, refl))

kind : (v : Variant) (r : Reading) → IsReading v r → Kind r.icode r.ifun
kind v r h =
    elim h.known [
      | inl lt ↦
          inl (
            and_from (nat_lt r.icode 13) (nat_le r.ifun (row Full r.icode).ifun_top) (below r.icode _ lt (rows_few v))
                (le-leb r.ifun _ (subst (λ one. r.ifun ≤ one.ifun_top) (row-widest v r.icode lt) h.ifun)),
            not_15 r.icode _ lt (rows_few v),
          )
      | inr none ↦ invalid_kind r.icode r.ifun none.0
    ]

-- ---- the status of a fetch

is_ins : (error invalid halt : Bool) → (if error then Adr else (if invalid then Ins else (if halt then Hlt else Aok))) ≡ Ins → (error ≡ false) × (invalid ≡ true)
is_ins true invalid halt e = absurd (cc)
is_ins false true halt e = (refl, refl)
is_ins false false true e = absurd (cc)
is_ins false false false e = absurd (cc)

ins : (error invalid halt : Bool) → error ≡ false → invalid ≡ true → (if error then Adr else (if invalid then Ins else (if halt then Hlt else Aok))) ≡ Ins
ins error invalid halt e e' = rw (e, e') refl

is_adr : (error invalid halt : Bool) → (if error then Adr else (if invalid then Ins else (if halt then Hlt else Aok))) ≡ Adr → error ≡ true
is_adr true invalid halt e = refl
is_adr false true halt e = absurd (cc)
is_adr false false true e = absurd (cc)
is_adr false false false e = absurd (cc)

adr : (error invalid halt : Bool) → error ≡ true → (if error then Adr else (if invalid then Ins else (if halt then Hlt else Aok))) ≡ Adr
adr error invalid halt e = rw e refl

fetch_stat_is : (v : Variant) (m : Machine) → (work v m).fetch_stat ≡ fetch_status (reading v m.mem m.pc).error (reading v m.mem m.pc).icode
unfolding work read_at
fetch_stat_is v m = refl

-- ---- the status of the step

fault_or : (fault : Bool) (stat fetch : Stat) → stat ≡ (if fault then Adr else fetch) → stat ≡ Ins → fetch ≡ Ins
fault_or true stat fetch e i = absurd (cc)
fault_or false stat fetch e i = sym e ∙ i

no_fault : (fault : Bool) (stat fetch : Stat) → (fault ≡ true → ⊥) → stat ≡ (if fault then Adr else fetch) → stat ≡ fetch
no_fault true stat fetch never e = absurd (never refl)
no_fault false stat fetch never e = e

no_access : (v : Variant) (m : Machine) → is_aok (work v m).fetch_stat ≡ false → (work v m).fault ≡ true → ⊥
no_access v m bad fault = clash _ (access-from_fault v m fault) (does_nothing-from_bad v m bad).access

step_ins : (v : Variant) (m : Machine) → ((work v m).stat ≡ Ins) ↔ ((work v m).fetch_stat ≡ Ins)
step_ins v m =
    let by_row = (FollowsRow-work v m).stat in
    (λ e. fault_or _ _ _ by_row e, λ e. no_fault _ _ _ (λ fault. no_access v m (ap is_aok e) fault) by_row ∙ e)

-- ---- the texts

valid_of : (icode ifun : ℕ) → Kind icode ifun → (icode == 15) ≡ true → is_valid icode ifun ≡ false
valid_of icode ifun kind e = elim kind [ inl good ↦ absurd (clash _ e good.1) | inr bad ↦ bad.0 ]

icode_of : (icode ifun : ℕ) → Kind icode ifun → is_valid icode ifun ≡ false → (icode == 15) ≡ true
icode_of icode ifun kind e = elim kind [ inl good ↦ absurd (clash _ good.0 e) | inr bad ↦ bad.1 ]

pub texts_are_of_runs : TextsAreOfRuns
texts_are_of_runs v m h going is =
    let r = reading v m.mem m.pc in
    let texts = texts_differ h in
    let of_icode = kind v r (IsReading-reading v m.mem m.pc) in
    let stat : (work v m).fetch_stat ≡ fetch_status r.error r.icode = fetch_stat_is v m in
    let valid : is_valid h.icode h.ifun ≡ is_valid r.icode r.ifun = λ i. is_valid (is.icode i) (is.ifun i) in
    record {
      invalid = (
        λ e.
            let parts = texts.invalid.0 e in
            stat-advance v m going
            ∙ (step_ins v m).1 (stat ∙ ins r.error (r.icode == iinvalid) (r.icode == ihalt) (sym is.failed ∙ parts.1) (icode_of r.icode r.ifun of_icode (sym valid ∙ parts.2))),
        λ e.
            let parts = is_ins r.error (r.icode == iinvalid) (r.icode == ihalt) (sym stat ∙ (step_ins v m).0 (sym (stat-advance v m going) ∙ e)) in
            texts.invalid.1 (is.live, is.failed ∙ parts.0, valid ∙ valid_of r.icode r.ifun of_icode parts.1),
      );
      failed = (
        λ e. stat ∙ adr r.error (r.icode == iinvalid) (r.icode == ihalt) (sym is.failed ∙ (texts.failed.0 e).1),
        λ e. texts.failed.1 (is.live, is.failed ∙ is_adr r.error (r.icode == iinvalid) (r.icode == ihalt) (sym stat ∙ e)),
      );
    }

-- ---- what a cycle fetches

pub fetches_what_is_read : FetchesWhatIsRead
fetches_what_is_read v terms p f watch m solves mem pc icode ifun =
    let hardware = pipe_hardware_rows v terms p f solves in
    let read : reading v p.mem (f names.f_pc) ≡ reading v m.mem m.pc = sym (λ i. reading v (mem i) (pc i)) in
    record {
      live = refl;
      failed = ap set hardware.imem_error ∙ set_bit (reading v p.mem (f names.f_pc)).error ∙ ap (λ (r : Reading). r.error) read;
      icode = icode ∙ hardware.imem_icode ∙ ap (λ (r : Reading). r.icode) read;
      ifun = ifun ∙ hardware.imem_ifun ∙ ap (λ (r : Reading). r.ifun) read;
    }
