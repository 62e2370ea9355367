-- The run of a sequential machine, and its output, cycle by cycle.
use Rattle.std.specs.Prelude.{◌≡◌, ℕ, zero, suc, ◌≤◌, ◌<◌, true, false, List, [], ◌++◌, codes, if◌then◌else◌}
use Rattle.y86_base.specs.declared.parts.Stat.{Stat}
use Rattle.y86_base.specs.declared.parts.Variant.{Variant}
use Rattle.y86_isa.specs.Machine.{is_aok}
use Rattle.y86_isa.specs.declared.machine.Machine.{Machine}
use Rattle.hcl_types.specs.declared.term.Term.{Term}
use Rattle.hcl_types.specs.declared.table.Row.{Row}
use Rattle.dp_signals.specs.SeqNames as seq
use Rattle.dp_sequential.specs.Path.{SequentialPath, Solves}
use Rattle.dp_sequential.specs.Seq.{seq_path}
use Rattle.seq_plus.specs.PlusNames as plus
use Rattle.seq_plus.specs.PlusRun.{plus_path}
use Rattle.seq_plus.specs.declared.state.PlusState.{PlusState}
use Rattle.pipe_stage_text.specs.Cycle.{end_line}
use Rattle.pipe_stage_text.specs.Numbers.{number_pair}
use Rattle.pipe_stage_text.specs.Observer.{is_within}
use Rattle.pipe_stage_text.specs.declared.observer.CycleRange.{CycleRange}
use Rattle.seq_text.specs.Lines.{choice_line, stage_lines, state_lines, update_line}
use Rattle.seq_text.specs.Signals.{Sources, plus_signals, plus_sources, seq_signals, seq_sources}

-- ---- a cycle of a state, with f for the value of each signal, and the sources that the picks of the file give

unfoldable pub seq_lines : Machine → (ℕ → ℕ) → Sources → List ℕ
seq_lines s f from =
    stage_lines (seq_signals f) from ++ (update_line (f seq.new_pc) from ++ state_lines s.flags (seq_signals f))

unfoldable pub plus_lines : PlusState → (ℕ → ℕ) → Sources → List ℕ
plus_lines t f from =
    choice_line t.previous (f plus.pc) from ++ (stage_lines (plus_signals f) from ++ state_lines t.flags (plus_signals f))

-- how the cycles of a sequential datapath are shown: the sources that the picks of a file give, and the lines of a cycle
pub record CycleText (S : Type 0) : Type 0 where
  pub sources : List Row → List Term → (ℕ → ℕ) → Sources
  pub lines : S → (ℕ → ℕ) → Sources → List ℕ

abbrev pub seq_cycle_text : CycleText Machine
seq_cycle_text = record { sources = seq_sources; lines = seq_lines }

abbrev pub plus_cycle_text : CycleText PlusState
plus_cycle_text = record { sources = plus_sources; lines = plus_lines }

-- the state before a cycle, its lines, and the state after it
abbrev pub Shows : {S : Type 0} → SequentialPath S → CycleText S → Variant → List Term → S → List ℕ → S → Type 0
Shows path text v terms s lines t =
    (f : ℕ → ℕ) × Solves path v terms s f × (lines ≡ text.lines s f (text.sources path.table terms f)) × (t ≡ path.next s f)

abbrev pub SeqShows : Variant → List Term → Machine → List ℕ → Machine → Type 0
SeqShows = Shows seq_path seq_cycle_text

abbrev pub PlusShows : Variant → List Term → PlusState → List ℕ → PlusState → Type 0
PlusShows = Shows plus_path plus_cycle_text

abbrev pub seq_stat : Machine → Stat
seq_stat = seq_path.stat

abbrev pub plus_stat : PlusState → Stat
plus_stat = plus_path.stat

-- ---- a run of either machine: Shows says what a cycle does and prints, and stat is the status of a state

-- the output for the cycle with this number
unfoldable pub shown : CycleRange → ℕ → List ℕ → List ℕ
shown window number lines = if is_within window number then number_pair (codes "cycle ") number ++ (codes "\n" ++ lines) else []

-- s is the state k cycles after first, before each of which the machine had not ended, and text is their output
abbrev pub Observes : {S : Type 0} → (S → List ℕ → S → Type 0) → (S → Stat) → CycleRange → S → ℕ → S → List ℕ → Type 0
Observes Shows stat window first zero s text = (s ≡ first) × (text ≡ [])
Observes {S} Shows stat window first (suc k) s text =
    (u : S) × (before : List ℕ) × (lines : List ℕ) × Observes Shows stat window first k u before × (is_aok (stat u) ≡ true) × Shows u lines s
    × (text ≡ before ++ shown window (suc k) lines)

-- s is the state k cycles after first, at the machine's end or at the limit of cycles, and text is the output of the
-- cycles
pub record ObservesTo {S : Type 0} (Shows : S → List ℕ → S → Type 0) (stat : S → Stat) (window : CycleRange) (first : S) (limit k : ℕ) (s : S) (text : List ℕ) : Type 0 where
  pub within : k ≤ limit
  pub watches : Observes Shows stat window first k s text
  pub whole : k < limit → is_aok (stat s) ≡ false

-- the text and the end of a run: the output for its cycles, and the line of the end; each cycle is an instruction
abbrev pub ShowsRun : {S : Type 0} → (S → List ℕ → S → Type 0) → (S → Stat) → CycleRange → S → ℕ → List ℕ → Stat → Type 0
ShowsRun {S} Shows stat window first limit text end =
    (k : ℕ) × (s : S) × (lines : List ℕ) × ObservesTo Shows stat window first limit k s lines × (text ≡ lines ++ end_line (stat s) k k) × (end ≡ stat s)
