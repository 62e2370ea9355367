-- Two machines with the same state are equal, if they have the processor's sizes.
use Rattle.std.proofs.Common.{◌≡◌, ℕ, zero, suc, ◌/◌, ◌<◌, ◌==◌, List, length, get_or, unwrap_or, refl, sym, ap, ◌∙◌, subst, arith}
use Rattle.std.proofs.lemmas.Bool.{cond_both, lt-ltb}
use Rattle.std.proofs.lemmas.Grind.{same_number_lists}
use Rattle.std.proofs.lemmas.Option.{unwrap_or-slice_get}
use Rattle.dp_signals.specs.PipeCycle.{next, next_regs, store_of}
use Rattle.dp_signals.specs.PipeNames as row
use Rattle.dp_signals.specs.declared.pipe_state.PipeState.{PipeState}
use Rattle.hcl_types.specs.declared.term.Term.{Term}
use Rattle.pipe_path.specs.Pipe.{PipeMachine, end_of, started}
use Rattle.retire_trace.specs.Drive.{CallsFor}
use Rattle.y86_base.proofs.Memories.{length-with_register}
use Rattle.y86_base.specs.Image.{IsImage}
use Rattle.y86_base.specs.Registers.{register, with_register}
use Rattle.y86_base.specs.declared.parts.Variant.{Variant}
use Rattle.y86_isa.proofs.Images.{length-run_from}
use Rattle.y86_isa.proofs.Memories.{IsImage-stored, length-stored}
use Rattle.y86_isa.proofs.Words.{IsMachine-run_from, IsMachine-start}
use Rattle.y86_isa.specs.Machine.{start}
use Rattle.y86_isa.specs.Run.{IsMachine, run}
use Rattle.y86_isa.specs.declared.machine.Machine.{Machine}
use Rattle.y86_isa.specs.declared.machine.Rec.{Rec}
use Rattle.yis_run.proofs.Unlisted.{byte-same}
use Rattle.cosimulation.specs.Agreement.{EndsEqual}
use Rattle.cosimulation.specs.Lockstep.{IsCompared}
use Rattle.cosimulation.specs.States.{SameRegisters, SameState, SameWords}
use Rattle.cosimulation.specs.declared.lockstep.Compared.TheVariants.{Same}

-- ---- equal parts

read_register : (registers : List ℕ) (k : ℕ) → k < 15 → register registers k ≡ get_or registers k 0
unfolding register
read_register registers k h = rw (lt-ltb k 15 h) refl

same_registers : (one other : List ℕ) → length one ≡ 15 → length other ≡ 15 → SameRegisters one other 15 → one ≡ other
same_registers one other e f same =
    same_number_lists one other (e ∙ sym f)
    (λ k lt.
    let below : k < 15 = omega (arith, e, lt) in
    sym (read_register one k below) ∙ (same k below ∙ read_register other k below))

same_memory : (one other : List ℕ) → IsImage one → IsImage other → length one ≡ length other → SameWords one other (length one / 8) → one ≡ other
same_memory one other f g size same =
    same_number_lists one other size
    (λ k lt.
    let below : k / 8 < length one / 8 = omega (arith, lt, f.sized.whole_words) in
    sym (unwrap_or-slice_get one k 0)
    ∙ (ap (λ o. unwrap_or o 0) (byte-same other one k g f size (same (k / 8) below)) ∙ unwrap_or-slice_get other k 0))

-- ---- the sizes of PIPE's parts

-- 15 registers, and an image of this size
record HasSizes (size : ℕ) (p : PipeState) : Type 0 where
  registers : length p.regs ≡ 15
  memory : IsImage p.mem
  sized : length p.mem ≡ size

length-next_regs : (p : PipeState) (f : ℕ → ℕ) → length (next_regs p f) ≡ length p.regs
length-next_regs p f =
    cond_both (p.w.stat == 1) _ p.regs (λ r. length r ≡ length p.regs)
    (λ _. length-with_register (with_register p.regs (f row.w_dstE) (f row.w_valE)) (f row.w_dstM) (f row.w_valM) ∙ length-with_register p.regs (f row.w_dstE) (f row.w_valE))
    (λ _. refl)

HasSizes-next : (size : ℕ) (p : PipeState) (f : ℕ → ℕ) → HasSizes size p → HasSizes size (next p f)
unfolding next
HasSizes-next size p f h =
    record {
      registers = length-next_regs p f ∙ h.registers;
      memory = IsImage-stored p.mem (store_of p f) h.memory;
      sized = length-stored p.mem (store_of p f) ∙ h.sized;
    }

HasSizes-calls : (size : ℕ) (p : PipeMachine) (k : ℕ) (q : PipeMachine) (rs : List Rec) → CallsFor p k q rs → HasSizes size p.state → HasSizes size q.state
HasSizes-calls size p zero q rs (e, none) h = subst (λ (x : PipeMachine). HasSizes size x.state) (sym e) h
HasSizes-calls size p (suc k) q rs (m, before, r, goes, going, cycle, more) h =
    let step = cycle.goes going in
    subst (λ (x : PipeMachine). HasSizes size x.state) (sym step.2) (HasSizes-next size m.state step.0 (HasSizes-calls size p k m before goes h))

-- ---- equal machines

same_machines : (m n : Machine) → m.regs ≡ n.regs → m.mem ≡ n.mem → SameState m n → m ≡ n
same_machines m n registers memory same =
    let it : record { regs = m.regs; flags = m.flags; pc = m.pc; stat = m.stat; mem = m.mem } ≡ n =
    rw (registers, same.flags, same.pc, same.stat, memory) refl in
    it

pub ends_equal : (v : Variant) (terms : List Term) (order image : List ℕ) (limit steps cycles : ℕ) → IsImage image →
    IsCompared v (started v terms order image) (start image) limit (Same steps cycles) → EndsEqual v terms order image steps cycles
ends_equal v terms order image limit steps cycles good (q, alike, within, off, same) =
    let n : Machine = run v image steps in
    let pipe : HasSizes (length image) q.state =
    HasSizes-calls (length image) (started v terms order image) cycles q _ alike.goes (record { registers = refl; memory = good; sized = refl }) in
    let machine : IsMachine n = IsMachine-run_from v (start image) steps (IsMachine-start image good) in
    let sizes : length q.state.mem ≡ length n.mem = pipe.sized ∙ sym (length-run_from v (start image) steps) in
    record {
      pipe = q;
      alike = alike;
      ended = off;
      equal = same_machines (end_of q) n (same_registers q.state.regs n.regs pipe.registers machine.registers same.registers)
          (same_memory q.state.mem n.mem pipe.memory machine.memory sizes same.memory) same;
    }
