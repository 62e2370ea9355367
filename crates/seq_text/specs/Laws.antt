-- The output shows the run of the machine, its changes, and the sources of words.
use Rattle.std.specs.Prelude.{◌≡◌, ℕ, true, List, length, Some, is_some}
use Rattle.std.specs.List.{AllByRecursion}
use Rattle.y86_base.specs.Image.{word_at}
use Rattle.y86_base.specs.declared.parts.Variant.{Variant}
use Rattle.y86_isa.specs.Blocks.{stored}
use Rattle.y86_isa.specs.declared.machine.Rec.{Rec}
use Rattle.y86_isa.specs.declared.machine.Store.{Store}
use Rattle.hcl_types.specs.declared.term.Term.{Term}
use Rattle.dp_signals.specs.SeqNames as seq_row
use Rattle.dp_signals.specs.SequentialRows.{seq}
use Rattle.dp_signals.specs.declared.sequential_rows.SignalRows.{SignalRows}
use Rattle.dp_sequential.specs.Path.{RunFrom, SequentialPath, Solves}
use Rattle.dp_sequential.specs.Seq.{seq_path}
use Rattle.seq_plus.specs.PlusNames.{plus}
use Rattle.seq_plus.specs.PlusRun.{plus_path}
use Rattle.pipe_stage_text.specs.Changes.{IsOfRegister, after_writes}
use Rattle.pipe_stage_text.specs.Sources.{name_picked}
use Rattle.pipe_stage_text.specs.declared.observer.CycleRange.{CycleRange}
use Rattle.seq_text.specs.Lines.{told_store, told_writes}
use Rattle.seq_text.specs.Signals.{plus_signals, seq_signals}
use Rattle.seq_text.specs.Observer.{CycleText, Observes, Shows, plus_cycle_text, seq_cycle_text}
use Rattle.seq_text.specs.declared.signals.Signals.{Signals}

-- ---- the run

abbrev pub WatchesTheRun : {S : Type 0} → SequentialPath S → CycleText S → Type 0
WatchesTheRun {S} path cycle_text =
    (v : Variant) (terms : List Term) (window : CycleRange) (image : List ℕ) (k : ℕ) (s : S) (text : List ℕ) →
    Observes (Shows path cycle_text v terms) path.stat window (path.start image) k s text →
    (records : List Rec) × RunFrom path v terms (path.start image) k s records × (length records ≡ k)

abbrev pub SeqWatchesTheRun : Type 0
SeqWatchesTheRun = WatchesTheRun seq_path seq_cycle_text

abbrev pub PlusWatchesTheRun : Type 0
PlusWatchesTheRun = WatchesTheRun plus_path plus_cycle_text

-- ---- registers and memory

-- the lines of a cycle with these signals report what it changes
pub record TellsChanges (registers memory : List ℕ) (signals : Signals) (registers_after memory_after : List ℕ) : Type 0 where
  pub in_registers : registers_after ≡ after_writes registers (told_writes signals)
  pub of_registers : AllByRecursion IsOfRegister (told_writes signals)
  pub in_memory : memory_after ≡ stored memory (told_store signals)
  pub inside : (store : Store) → told_store signals ≡ Some store → is_some (word_at memory store.addr) ≡ true

abbrev pub EachCycleTellsChanges : {S : Type 0} → SequentialPath S → ((ℕ → ℕ) → Signals) → Type 0
EachCycleTellsChanges {S} path signals =
    (v : Variant) (terms : List Term) (s : S) (f : ℕ → ℕ) → Solves path v terms s f →
    TellsChanges (path.regs s) (path.mem s) (signals f) (path.regs (path.next s f)) (path.mem (path.next s f))

abbrev pub SeqTellsChanges : Type 0
SeqTellsChanges = EachCycleTellsChanges seq_path seq_signals

abbrev pub PlusTellsChanges : Type 0
PlusTellsChanges = EachCycleTellsChanges plus_path plus_signals

-- ---- sources: a signal has the value of the name that its definition picks

abbrev pub HasSource : {S : Type 0} → SequentialPath S → ℕ → Type 0
HasSource {S} path signal =
    (v : Variant) (terms : List Term) (s : S) (f : ℕ → ℕ) (id : ℕ) → Solves path v terms s f → name_picked path.first terms f signal ≡ Some id → f signal ≡ f id

-- pc is the signal to which the PC is set: new_pc of SEQ, and pc of SEQ+
pub record HaveSources {S : Type 0} (path : SequentialPath S) (rows : SignalRows) (pc : ℕ) : Type 0 where
  pub aluA : HasSource path rows.alu_a
  pub aluB : HasSource path rows.alu_b
  pub mem_addr : HasSource path rows.mem_addr
  pub mem_data : HasSource path rows.mem_data
  pub next_pc : HasSource path pc

abbrev pub SeqSources : Type 0
SeqSources = HaveSources seq_path seq seq_row.new_pc

abbrev pub PlusSources : Type 0
PlusSources = HaveSources plus_path plus plus.pc
