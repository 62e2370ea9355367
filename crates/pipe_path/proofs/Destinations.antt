-- A record that retires is in normal form, so its destinations are register numbers or 15.
use Rattle.std.proofs.Common.{◌≡◌, ℕ, ◌≤◌, Bool, true, false, nat_lt, Option, Some, None, if◌then◌else◌, IfSome, refl, arith}
use Rattle.std.proofs.lemmas.Bool.Decides.{nat_tests}
use Rattle.y86_isa.specs.Machine.{is_aok, normal, written_number, written_word}
use Rattle.y86_isa.specs.declared.machine.Rec.{Rec}
use Rattle.y86_base.specs.Stat.{stat_of}
use Rattle.dp_signals.specs.PipeCycle.{retires, record_of}
use Rattle.dp_signals.specs.PipeNames as row
use Rattle.dp_signals.specs.declared.register_updates.CycleEnd.{CycleEnd}
use Rattle.dp_signals.specs.declared.pipe_state.PipeState.{PipeState}
use Rattle.pipe_path.specs.Calls.{record_in}
use Rattle.pipe_path.specs.Destinations.{HasDestinations}
use Rattle.pipe_path.specs.Pipe.{call_answer}
use Rattle.pipe_path.specs.declared.pipe.Cycled.{Cycled}
use Rattle.pipe_path.proofs.Runs.{record_told}

written_fits : (n : ℕ) → written_number n ≤ 15
written_fits n = by (nat_lt n 15) refl
  where
    by : (b : Bool) → nat_lt n 15 ≡ b → (if b then n else 15) ≤ 15
    by true e = grind (arith, nat_tests, e)
    by false e = omega arith

chosen_fits : (b : Bool) (x y : Rec) → HasDestinations x → HasDestinations y → HasDestinations (if b then x else y)
chosen_fits true x y h k = h
chosen_fits false x y h k = k

normal_fits : (r : Rec) → HasDestinations (normal r)
normal_fits r =
    chosen_fits (is_aok r.stat)
    (record r { dst_e = written_number r.dst_e; val_e = written_word r.dst_e r.val_e; dst_m = written_number r.dst_m; val_m = written_word r.dst_m r.val_m })
    (record r { dst_e = 15; val_e = 0; dst_m = 15; val_m = 0; store = None })
    (record { e = written_fits r.dst_e; m = written_fits r.dst_m })
    (record { e = omega arith; m = omega arith })

live_fits : (live : Bool) (r : Rec) → HasDestinations r → IfSome (if live then Some r else None) (λ r. HasDestinations r)
live_fits true r h = h
live_fits false r h = tt

pub retired_fits : (p : PipeState) (f : ℕ → ℕ) → IfSome (retires p f) (λ r. HasDestinations r)
unfolding retires
retired_fits p f =
    live_fits p.w.live (record_of p f)
    (normal_fits
    (record {
      pc = p.w.trail.addr;
      icode = p.w.icode;
      ifun = p.w.trail.ifun;
      dst_e = f row.w_dstE;
      val_e = f row.w_valE;
      dst_m = f row.w_dstM;
      val_m = f row.w_valM;
      store = p.w.trail.store;
      flags = p.w.trail.flags;
      stat = stat_of p.w.stat;
    }))

pub told_fits : (answer : Cycled) (e : CycleEnd) (retired : Option Rec) → answer ≡ call_answer e retired →
    IfSome retired (λ r. HasDestinations r) → IfSome (record_in answer) (λ r. HasDestinations r)
told_fits answer e retired is h = rw (is, record_told e retired) h
