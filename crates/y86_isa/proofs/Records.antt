-- The record gives the whole step; the machine after a step; the i-th record; the normal form.
use Rattle.std.proofs.Common.{◌≡◌, ℕ, zero, suc, ◌<◌, Bool, true, false, cond, nat_lt, List, ◌++◌, Option, Some, IfSome, slice_get, refl, sym, ap, ◌∙◌, arith}
use Rattle.std.specs.Option.{option_to_list}
use Rattle.y86_base.specs.Registers.{with_register}
use Rattle.y86_base.specs.declared.parts.Variant.{Variant}
use Rattle.y86_isa.specs.declared.machine.Machine.{Machine}
use Rattle.y86_isa.specs.declared.machine.Rec.{Rec}
use Rattle.y86_isa.specs.Machine.{is_aok, written_number, written_word}
use Rattle.y86_isa.specs.Laws.{IsRecordOfStep}
use Rattle.y86_isa.specs.Blocks.{stored}
use Rattle.y86_isa.specs.Work.{work}
use Rattle.y86_isa.specs.Step.{finished, machine_after, record_of, advance, retired}
use Rattle.y86_isa.specs.Run.{run_from, records_from}
use Rattle.y86_isa.proofs.Runs.{run_from-stopped}
use Rattle.y86_isa.proofs.Steps.{Advances, advances}
use Rattle.y86_isa.proofs.Steps.Advances.{stays, stops, goes}

written_by : (b : Bool) (registers : List ℕ) (n word : ℕ) → nat_lt n 15 ≡ b → with_register registers n word ≡ with_register registers (cond b n 15) (cond b word 0)
unfolding with_register
written_by true registers n word e = refl
written_by false registers n word e = rw e refl

pub written_same : (registers : List ℕ) (n word : ℕ) → with_register registers n word ≡ with_register registers (written_number n) (written_word n word)
written_same registers n word = written_by (nat_lt n 15) registers n word refl

tells_case : (v : Variant) (m after : Machine) (r : Option Rec) → Advances v m after r → IfSome r (λ x. IsRecordOfStep m after x)
unfolding stored with_register
tells_case v m _ _ (stays e) = tt
tells_case v m _ _ (stops e w) = record { pc = rw w refl; stat = rw w refl; flags = rw w refl; mem = rw w refl; regs = rw w refl }
tells_case v m _ _ (goes e w) =
    let q = work v m in
    record {
      pc = rw w refl;
      stat = rw w refl;
      flags = rw w refl;
      mem = rw w refl;
      regs = rw w (written_same (with_register m.regs q.dst_e q.val_e) q.dst_m q.val_m
          ∙ ap (λ rs. with_register rs (written_number q.dst_m) (written_word q.dst_m q.val_m)) (written_same m.regs q.dst_e q.val_e));
    }

pub record_tells : (v : Variant) (m : Machine) → IfSome (retired v m) (λ r. IsRecordOfStep m (advance v m) r)
record_tells v m = tells_case v m (advance v m) (retired v m) (advances v m)

-- the machine after an instruction that ends with AOK, and after one that doesn't
pub advance-goes : (v : Variant) (m : Machine) → is_aok m.stat ≡ true → is_aok (work v m).stat ≡ true → advance v m ≡ finished m (work v m)
unfolding advance
advance-goes v m e w = rw (e, w) refl

pub advance-stops : (v : Variant) (m : Machine) → is_aok m.stat ≡ true → is_aok (work v m).stat ≡ false → advance v m ≡ record m { stat = (work v m).stat }
unfolding advance
advance-stops v m e w = rw (e, w) refl

pub advance-live : (v : Variant) (m : Machine) → is_aok m.stat ≡ true → advance v m ≡ machine_after m (work v m)
unfolding advance
advance-live v m e = rw e refl

pub retired-live : (v : Variant) (m : Machine) → is_aok m.stat ≡ true → retired v m ≡ Some (record_of m (work v m))
unfolding retired
retired-live v m e = rw e refl

-- a step ends with the status of the work
pub stat-advance : (v : Variant) (m : Machine) → is_aok m.stat ≡ true → (advance v m).stat ≡ (work v m).stat
unfolding advance
stat-advance v m e = by (is_aok (work v m).stat) e refl
  where
    by : (b : Bool) → is_aok m.stat ≡ true → is_aok (work v m).stat ≡ b → (cond (is_aok m.stat) (cond (is_aok (work v m).stat) (finished m (work v m)) (record m { stat = (work v m).stat })) m).stat ≡ (work v m).stat
    by true e w = rw (e, w) refl
    by false e w = rw (e, w) refl

-- ---- the i-th record

live_first : (v : Variant) (m : Machine) (r : Rec) (o : Option Rec) (rs : List Rec) → o ≡ Some r → slice_get (option_to_list o ++ rs) 0 ≡ o
live_first v m r o rs e = rw e refl

behind_first : (o : Option Rec) (r : Rec) (rs : List Rec) (i : ℕ) → o ≡ Some r → slice_get (option_to_list o ++ rs) (suc i) ≡ slice_get rs i
behind_first o r rs i e = rw e refl

-- an earlier machine of a run that goes on has not stopped
pub live_before : (v : Variant) (m : Machine) (i : ℕ) → is_aok (run_from v m i).stat ≡ true → is_aok m.stat ≡ true
live_before v m i h = first (is_aok m.stat) refl
  where
    first : (b : Bool) → is_aok m.stat ≡ b → is_aok m.stat ≡ true
    first true e = e
    first false e = ap (λ x. is_aok x.stat) (sym (run_from-stopped v m i e)) ∙ h

pub records-at : (v : Variant) (m : Machine) (n i : ℕ) → i < n → is_aok (run_from v m i).stat ≡ true → slice_get (records_from v m n) i ≡ retired v (run_from v m i)
unfolding records_from run_from
records-at v m zero i lt h = absurd (omega arith)
records-at v m (suc n) zero lt h = live_first v m _ (retired v m) (records_from v (advance v m) n) (retired-live v m h)
records-at v m (suc n) (suc i) lt h =
    behind_first (retired v m) _ (records_from v (advance v m) n) i (retired-live v m (live_before v m (suc i) h))
    ∙ records-at v (advance v m) n i (omega arith) h
