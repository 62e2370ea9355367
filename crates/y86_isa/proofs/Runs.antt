-- Runs and their records: no step, one more step, a machine that has stopped.
use Rattle.std.proofs.Common.{◌≡◌, ◌≢◌, ℕ, zero, suc, ◌+◌, ◌<◌, ◌≤◌, ◌⊎◌, inl, inr, Bool, true, false, cond, List, [], ◌++◌, length, Some, None, refl, sym, ap, ◌∙◌, arith, add-one, append_assoc, append-nil, length-append}
use Rattle.std.specs.Option.{option_to_list}
use Rattle.y86_base.specs.declared.parts.Stat.{Stat}
use Rattle.y86_base.specs.declared.parts.Stat.TheVariants.{Bub, Aok, Hlt, Adr, Ins, Pip, Bad}
use Rattle.y86_base.specs.declared.parts.Variant.{Variant}
use Rattle.y86_isa.specs.declared.machine.Machine.{Machine}
use Rattle.y86_isa.specs.declared.machine.Rec.{Rec}
use Rattle.y86_isa.specs.Machine.{is_aok, start}
use Rattle.y86_isa.specs.Step.{step, advance, retired}
use Rattle.y86_isa.specs.Run.{run, run_from, records, records_from}

-- ---- whether a machine has stopped

pub is_aok-from_not : (s : Stat) → s ≢ Aok → is_aok s ≡ false
is_aok-from_not Bub h = refl
is_aok-from_not Aok h = absurd (h refl)
is_aok-from_not Hlt h = refl
is_aok-from_not Adr h = refl
is_aok-from_not Ins h = refl
is_aok-from_not Pip h = refl
is_aok-from_not Bad h = refl

pub aok_or_stopped : (s : Stat) → (s ≡ Aok) ⊎ (is_aok s ≡ false)
aok_or_stopped Bub = inr refl
aok_or_stopped Aok = inl refl
aok_or_stopped Hlt = inr refl
aok_or_stopped Adr = inr refl
aok_or_stopped Ins = inr refl
aok_or_stopped Pip = inr refl
aok_or_stopped Bad = inr refl

-- a machine that has stopped stays as it is, and leaves no record
pub advance-stopped : (v : Variant) (m : Machine) → is_aok m.stat ≡ false → advance v m ≡ m
unfolding advance
advance-stopped v m h = rw h refl

pub retired-stopped : (v : Variant) (m : Machine) → is_aok m.stat ≡ false → retired v m ≡ None
unfolding retired
retired-stopped v m h = rw h refl

-- a machine that goes on leaves one
pub retired-going : (v : Variant) (m : Machine) → is_aok m.stat ≡ true → retired v m ≡ Some (step v m).1
unfolding retired
retired-going v m h = rw h refl

stopped_by : (b : Bool) (r : Rec) → cond b (Some r) None ≡ None → b ≡ false
stopped_by true r h = cc
stopped_by false r h = refl

-- a machine that leaves no record has stopped
pub stopped-from_none : (v : Variant) (m : Machine) → retired v m ≡ None → is_aok m.stat ≡ false
unfolding retired
stopped-from_none v m h = stopped_by (is_aok m.stat) (step v m).1 h

-- ---- the machine after n steps

pub run_from-none : (v : Variant) (m : Machine) → run_from v m 0 ≡ m
unfolding run_from
run_from-none v m = refl

-- the first of several steps
pub run_from-more : (v : Variant) (m : Machine) (n : ℕ) → run_from v m (n + 1) ≡ run_from v (advance v m) n
unfolding run_from
run_from-more v m n = rw add-one refl

-- the last of several steps
pub run_from-last : (v : Variant) (m : Machine) (n : ℕ) → run_from v m (n + 1) ≡ advance v (run_from v m n)
unfolding run_from
run_from-last v m zero = refl
run_from-last v m (suc n) = rw (← add-one n) (run_from-more v m (n + 1) ∙ run_from-last v (advance v m) n)

pub run_from-stopped : (v : Variant) (m : Machine) (n : ℕ) → is_aok m.stat ≡ false → run_from v m n ≡ m
unfolding run_from
run_from-stopped v m zero h = refl
run_from-stopped v m (suc n) h = rw (advance-stopped v m h) (run_from-stopped v m n h)

-- ---- the records of n steps

pub records_from-none : (v : Variant) (m : Machine) → records_from v m 0 ≡ []
unfolding records_from
records_from-none v m = refl

pub records_from-more : (v : Variant) (m : Machine) (n : ℕ) →
    records_from v m (n + 1) ≡ option_to_list (retired v m) ++ records_from v (advance v m) n
unfolding records_from
records_from-more v m n = rw add-one refl

pub records_from-stopped : (v : Variant) (m : Machine) (n : ℕ) → is_aok m.stat ≡ false → records_from v m n ≡ []
unfolding records_from
records_from-stopped v m zero h = refl
records_from-stopped v m (suc n) h = rw (retired-stopped v m h, advance-stopped v m h) (records_from-stopped v m n h)

pub records_from-last : (v : Variant) (m : Machine) (n : ℕ) →
    records_from v m (n + 1) ≡ records_from v m n ++ option_to_list (retired v (run_from v m n))
unfolding records_from run_from
records_from-last v m zero = append-nil (option_to_list (retired v m))
records_from-last v m (suc n) =
    rw (← add-one n, records_from-more v m (n + 1), records_from-last v (advance v m) n)
    (sym (append_assoc (option_to_list (retired v m)) (records_from v (advance v m) n) (option_to_list (retired v (run_from v (advance v m) n)))))

-- ---- how many records there are

retired_some : (v : Variant) (m : Machine) → m.stat ≡ Aok → length (option_to_list (retired v m)) ≡ 1
unfolding retired
retired_some v m e = rw e refl

length_more : (v : Variant) (m : Machine) (n : ℕ) → length (records_from v m (suc n)) ≡ length (option_to_list (retired v m)) + length (records_from v (advance v m) n)
length_more v m n = rw (← add-one n, records_from-more v m n) (length-append (option_to_list (retired v m)) (records_from v (advance v m) n))

pub length-records_from : (v : Variant) (m : Machine) (n : ℕ) → length (records_from v m n) ≤ n
length-records_from v m zero = omega (arith, ap length (records_from-none v m))
length-records_from v m (suc n) =
    elim (aok_or_stopped m.stat) [
      | inl e ↦
          omega (arith, length_more v m n, retired_some v m e, length-records_from v (advance v m) n)
      | inr e ↦ omega (arith, ap length (records_from-stopped v m (suc n) e))
    ]

-- if there are fewer records than steps, the run stopped at the step after the last record
pub stopped-from_few : (v : Variant) (m : Machine) (n : ℕ) → length (records_from v m n) < n → is_aok (run_from v m (length (records_from v m n))).stat ≡ false
stopped-from_few v m zero h = absurd (omega arith)
stopped-from_few v m (suc n) h =
    elim (aok_or_stopped m.stat) [
      | inl e ↦
          let more : length (records_from v m (suc n)) ≡ length (records_from v (advance v m) n) + 1 = omega (arith, length_more v m n, retired_some v m e) in
          rw (more, run_from-more) (stopped-from_few v (advance v m) n (omega arith))
      | inr e ↦ rw (records_from-stopped v m (suc n) e, run_from-none v m) e
    ]

-- ---- a run of instructions that has stopped

-- the machine stays as it is
pub run_stays : (v : Variant) (image : List ℕ) (r d : ℕ) → is_aok (run v image r).stat ≡ false → run v image (r + d) ≡ run v image r
run_stays v image r zero off = ap (run v image) (omega arith)
run_stays v image r (suc d) off =
    let more : r + suc d ≡ (r + d) + 1 = omega arith in
    let stays : run v image (r + d) ≡ run v image r = run_stays v image r d off in
    ap (run v image) more
    ∙ (run_from-last v (start image) (r + d) ∙ (advance-stopped v (run v image (r + d)) (ap (λ m. is_aok m.stat) stays ∙ off) ∙ stays))

-- and it leaves no further record
pub records_stay : (v : Variant) (image : List ℕ) (r d : ℕ) → is_aok (run v image r).stat ≡ false → records v image (r + d) ≡ records v image r
records_stay v image r zero off = ap (records v image) (omega arith)
records_stay v image r (suc d) off =
    let more : r + suc d ≡ (r + d) + 1 = omega arith in
    let stopped : is_aok (run v image (r + d)).stat ≡ false = ap (λ m. is_aok m.stat) (run_stays v image r d off) ∙ off in
    ap (records v image) more
    ∙ (records_from-last v (start image) (r + d)
    ∙ (ap (λ o. records v image (r + d) ++ option_to_list o) (retired-stopped v (run v image (r + d)) stopped)
    ∙ (append-nil (records v image (r + d)) ∙ records_stay v image r d off)))
