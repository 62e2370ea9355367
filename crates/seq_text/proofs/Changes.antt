-- The lines of a cycle report exactly what it changes in registers and memory.
use Rattle.std.proofs.Common.{◌≡◌, ℕ, Bool, true, false, ◌==◌, if◌then◌else◌, List, Option, None, Some, refl, ◌∙◌}
use Rattle.std.specs.Prelude.{is_some}
use Rattle.std.proofs.lemmas.Option.{none-some}
use Rattle.std.specs.List.{AllByRecursion}
use Rattle.y86_base.specs.Image.{word_at}
use Rattle.y86_base.specs.Words.{set}
use Rattle.y86_base.specs.declared.parts.Variant.{Variant}
use Rattle.y86_isa.specs.Blocks.{data_error, data_store, stored}
use Rattle.y86_isa.specs.declared.machine.Machine.{Machine}
use Rattle.y86_isa.specs.declared.machine.Store.{Store}
use Rattle.hcl_types.specs.declared.term.Term.{Term}
use Rattle.dp_signals.specs.Equations.{rule_of}
use Rattle.dp_signals.specs.PipeEquations.{constants}
use Rattle.dp_signals.specs.SequentialRows.{seq}
use Rattle.dp_signals.specs.Values.{bit}
use Rattle.dp_signals.specs.declared.sequential_rows.SignalRows.{SignalRows}
use Rattle.dp_sequential.proofs.SeqRows.{seq_hardware_rows}
use Rattle.dp_sequential.specs.Cycle.{block_by, fetched_by, memory_by, registers_by, store_by, worked_by}
use Rattle.dp_sequential.specs.Path.{SequentialPath, Solves}
use Rattle.dp_sequential.specs.Seq.{seq_next, seq_path}
use Rattle.seq_plus.specs.PlusCycle.{plus_next}
use Rattle.seq_plus.specs.PlusEquations.{PlusSolves, plus_block, plus_given}
use Rattle.seq_plus.specs.PlusNames.{plus}
use Rattle.seq_plus.specs.PlusRun.{plus_path}
use Rattle.seq_plus.specs.declared.state.PlusState.{PlusState}
use Rattle.pipe_stage_text.specs.Changes.{IsOfRegister}
use Rattle.pipe_stage_text.proofs.Changes.{after_some, some_of, store_inside}
use Rattle.seq_text.specs.Laws.{EachCycleTellsChanges, PlusTellsChanges, SeqTellsChanges}
use Rattle.seq_text.specs.Lines.{told_store, told_writes}
use Rattle.seq_text.specs.Signals.{plus_signals, seq_signals, signals_by}
use Rattle.seq_text.specs.declared.signals.Signals.{Signals}

-- ---- any datapath in which a cycle with another status than AOK changes only the status

stored_if : (b : Bool) (memory : List ℕ) (store : Option Store) → (if b then stored memory store else memory) ≡ stored memory (if b then store else None)
unfolding stored
stored_if true memory store = refl
stored_if false memory store = refl

inside_if : (b : Bool) (memory : List ℕ) (addr word error : ℕ) (reads writes : Bool) (store : Store) → error ≡ bit (data_error memory addr reads writes) →
    (if b then data_store addr word writes (set error) else None) ≡ Some store → is_some (word_at memory store.addr) ≡ true
inside_if true memory addr word error reads writes store e s = store_inside memory addr word error reads writes store e s
inside_if false memory addr word error reads writes store e s = absurd (none-some _ s)

of_registers : (s : Signals) → AllByRecursion IsOfRegister (told_writes s)
unfolding told_writes
of_registers s = some_of s.dst_e s.val_e s.dst_m s.val_m (s.stat == 1)

module _ {S : Type 0} (rows : SignalRows) (path : SequentialPath S)
    (registers : (s : S) (f : ℕ → ℕ) → path.regs (path.next s f) ≡ (if f rows.stat == 1 then registers_by rows (path.regs s) f else path.regs s))
    (memory : (s : S) (f : ℕ → ℕ) → path.mem (path.next s f) ≡ (if f rows.stat == 1 then memory_by rows (path.mem s) f else path.mem s))
    (error : (v : Variant) (terms : List Term) (s : S) (f : ℕ → ℕ) → Solves path v terms s f →
    f rows.dmem_error ≡ bit (data_error (path.mem s) (f rows.mem_addr) (set (f rows.mem_read)) (set (f rows.mem_write)))) where
  tells_changes : EachCycleTellsChanges path (signals_by rows)
  unfolding told_writes told_store
  tells_changes v terms s f solves = record {
    in_registers = registers s f ∙ after_some (path.regs s) (f rows.dst_e) (f rows.val_e) (f rows.dst_m) (f rows.val_m) (f rows.stat == 1);
    of_registers = of_registers (signals_by rows f);
    in_memory = memory s f ∙ stored_if (f rows.stat == 1) (path.mem s) (store_by rows f);
    inside = λ store told.
        inside_if (f rows.stat == 1) (path.mem s) (f rows.mem_addr) (f rows.mem_data) (f rows.dmem_error) (set (f rows.mem_read)) (set (f rows.mem_write)) store
        (error v terms s f solves) told;
  }

-- ---- SEQ and SEQ+

part_if : {S A : Type 0} (part : S → A) (b : Bool) (s t : S) → part (if b then s else t) ≡ (if b then part s else part t)
part_if part true s t = refl
part_if part false s t = refl

seq_registers : (s : Machine) (f : ℕ → ℕ) → (seq_next s f).regs ≡ (if f seq.stat == 1 then registers_by seq s.regs f else s.regs)
unfolding seq_next
seq_registers s f = part_if (λ (m : Machine). m.regs) (f seq.stat == 1) _ _

seq_memory : (s : Machine) (f : ℕ → ℕ) → (seq_next s f).mem ≡ (if f seq.stat == 1 then memory_by seq s.mem f else s.mem)
unfolding seq_next
seq_memory s f = part_if (λ (m : Machine). m.mem) (f seq.stat == 1) _ _

pub seq_tells_changes : SeqTellsChanges
unfolding seq_signals
seq_tells_changes = tells_changes seq seq_path seq_registers seq_memory (λ v terms s f solves. (seq_hardware_rows v terms s f solves).dmem_error)

plus_registers : (s : PlusState) (f : ℕ → ℕ) → (plus_next s f).regs ≡ (if f plus.stat == 1 then registers_by plus s.regs f else s.regs)
unfolding plus_next
plus_registers s f = part_if (λ (t : PlusState). t.regs) (f plus.stat == 1) _ _

plus_memory : (s : PlusState) (f : ℕ → ℕ) → (plus_next s f).mem ≡ (if f plus.stat == 1 then memory_by plus s.mem f else s.mem)
unfolding plus_next
plus_memory s f = part_if (λ (t : PlusState). t.mem) (f plus.stat == 1) _ _

plus_error : (v : Variant) (terms : List Term) (s : PlusState) (f : ℕ → ℕ) → PlusSolves v terms s f →
    f plus.dmem_error ≡ bit (data_error s.mem (f plus.mem_addr) (set (f plus.mem_read)) (set (f plus.mem_write)))
unfolding rule_of plus_block block_by fetched_by worked_by plus_given constants
plus_error v terms s f solves = solves plus.dmem_error

pub plus_tells_changes : PlusTellsChanges
unfolding plus_signals
plus_tells_changes = tells_changes plus plus_path plus_registers plus_memory plus_error
