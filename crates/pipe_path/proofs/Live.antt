-- The number of records that a cycle retires: one exactly if the instruction in W is live.
use Rattle.std.proofs.Common.{◌≡◌, ℕ, Bool, true, false, length, Option, Some, None, if◌then◌else◌, refl, sym, ap, ◌∙◌}
use Rattle.std.specs.Option.{option_to_list}
use Rattle.y86_isa.specs.declared.machine.Rec.{Rec}
use Rattle.dp_signals.specs.PipeCycle.{record_of, retires}
use Rattle.dp_signals.specs.declared.register_updates.CycleEnd.{CycleEnd}
use Rattle.dp_signals.specs.declared.pipe_state.PipeState.{PipeState}
use Rattle.pipe_path.specs.Calls.{record_in}
use Rattle.pipe_path.specs.Pipe.{call_answer}
use Rattle.pipe_path.proofs.Runs.{record_told}

count_there : (live : Bool) (r : Rec) → length (option_to_list (if live then Some r else None)) ≡ (if live then 1 else 0)
count_there true r = refl
count_there false r = refl

pub live_count : (p : PipeState) (f : ℕ → ℕ) → length (option_to_list (retires p f)) ≡ (if p.w.live then 1 else 0)
unfolding retires
live_count p f = count_there p.w.live (record_of p f)

pub live_told : (e : CycleEnd) (p : PipeState) (f : ℕ → ℕ) → (if p.w.live then 1 else 0) ≡ length (option_to_list (record_in (call_answer e (retires p f))))
live_told e p f = sym (ap (λ (r : Option Rec). length (option_to_list r)) (record_told e (retires p f)) ∙ live_count p f)
