-- A run that continues after it has stopped: the machine doesn't change, and no record is added.
use Rattle.std.proofs.Common.{◌≡◌, ℕ, zero, suc, ◌+◌, ◌-◌, ◌≤◌, false, [], ◌∷◌, ◌++◌, length, Some, None, sym, ap, ◌∙◌, arith, append-nil, length-append}
use Rattle.std.specs.Option.{option_to_list}
use Rattle.y86_base.specs.declared.parts.Variant.{Variant}
use Rattle.y86_isa.specs.declared.machine.Machine.{Machine}
use Rattle.y86_isa.specs.declared.machine.Rec.{Rec}
use Rattle.y86_isa.specs.Machine.{is_aok}
use Rattle.y86_isa.specs.Step.{advance, retired}
use Rattle.y86_isa.specs.Run.{run_from, records_from}
use Rattle.y86_isa.proofs.Runs.{advance-stopped, retired-stopped, stopped-from_none, run_from-last, records_from-last}

stays : (v : Variant) (m : Machine) (n more : ℕ) → is_aok (run_from v m n).stat ≡ false → run_from v m (n + more) ≡ run_from v m n
stays v m n zero h = ap (run_from v m) (omega arith)
stays v m n (suc more) h =
    let e : n + suc more ≡ n + more + 1 = omega arith in
    ap (run_from v m) e ∙ run_from-last v m (n + more) ∙ ap (advance v) (stays v m n more h) ∙ advance-stopped v (run_from v m n) h

adds_none : (v : Variant) (m : Machine) (n more : ℕ) → is_aok (run_from v m n).stat ≡ false → records_from v m (n + more) ≡ records_from v m n
adds_none v m n zero h = ap (records_from v m) (omega arith)
adds_none v m n (suc more) h =
    let e : n + suc more ≡ n + more + 1 = omega arith in
    let none : retired v (run_from v m (n + more)) ≡ None = ap (retired v) (stays v m n more h) ∙ retired-stopped v (run_from v m n) h in
    ap (records_from v m) e ∙ records_from-last v m (n + more) ∙ ap (λ r. records_from v m (n + more) ++ option_to_list r) none
    ∙ append-nil (records_from v m (n + more)) ∙ adds_none v m n more h

module _ (v : Variant) (m now : Machine) (n : ℕ) (at : now ≡ run_from v m n) where
  has_stopped : retired v now ≡ None → is_aok (run_from v m n).stat ≡ false
  has_stopped none = stopped-from_none v (run_from v m n) (ap (retired v) (sym at) ∙ none)

  -- if a step leaves no record, the machine is the one at the end of any longer run
  pub machine_at_end : (limit : ℕ) (after : Machine) → n ≤ limit → retired v now ≡ None → after ≡ advance v now → after ≡ run_from v m limit
  machine_at_end limit after within none e =
      let h = has_stopped none in
      let all : n + (limit - n) ≡ limit = omega arith in
      e ∙ ap (advance v) at ∙ advance-stopped v (run_from v m n) h ∙ sym (stays v m n (limit - n) h) ∙ ap (run_from v m) all

  -- and its records are those of any longer run
  pub records_at_end : (limit : ℕ) → n ≤ limit → retired v now ≡ None → n ≡ length (records_from v m n) → n ≡ length (records_from v m limit)
  records_at_end limit within none count =
      let h = has_stopped none in
      let all : n + (limit - n) ≡ limit = omega arith in
      count ∙ ap length (sym (adds_none v m n (limit - n) h) ∙ ap (records_from v m) all)

  -- after one more step
  pub machine_after_step : (after : Machine) → after ≡ advance v now → after ≡ run_from v m (n + 1)
  machine_after_step after e = e ∙ ap (advance v) at ∙ sym (run_from-last v m n)

  -- the step adds one record
  pub records_after_step : (rec : Rec) → retired v now ≡ Some rec → n ≡ length (records_from v m n) → n + 1 ≡ length (records_from v m (n + 1))
  records_after_step rec some count =
      let e : records_from v m (n + 1) ≡ records_from v m n ++ rec ∷ [] = records_from-last v m n ∙ ap (λ r. records_from v m n ++ option_to_list r) (ap (retired v) (sym at) ∙ some) in
      rw e (simp length-append (omega arith))
