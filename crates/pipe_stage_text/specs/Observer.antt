-- The run of a machine, and what is shown of it, cycle by cycle.
use Rattle.std.specs.Prelude.{◌≡◌, ℕ, zero, suc, ◌+◌, ◌≤◌, ◌<◌, Bool, true, false, not, ◌&&◌, nat_le, List, [], ◌∷◌, ◌++◌, length, codes, Option, Some, None, if◌then◌else◌}
use Rattle.std.specs.Option.{option_to_list}
use Rattle.y86_base.specs.Stat.{stat_name, stat_of}
use Rattle.y86_base.specs.declared.parts.Stat.{Stat}
use Rattle.y86_base.specs.declared.parts.Stat.TheVariants as stat
use Rattle.y86_base.specs.declared.parts.Variant.{Variant}
use Rattle.y86_isa.specs.Machine.{is_aok}
use Rattle.y86_isa.specs.declared.machine.Rec.{Rec}
use Rattle.hcl_types.specs.declared.term.Term.{Term}
use Rattle.dp_signals.specs.PipeCycle.{requested_updates, ending, next, retires}
use Rattle.dp_signals.specs.PipeEquations.{Solves}
use Rattle.dp_signals.specs.PipeNames as row
use Rattle.dp_signals.specs.PipeRun.{PipeHistory, PipeRun, end_by}
use Rattle.dp_signals.specs.PipeState.{start_state}
use Rattle.dp_signals.specs.PipeTable.{pipe_rows}
use Rattle.dp_signals.specs.declared.register_updates.CycleEnd.{CycleEnd}
use Rattle.dp_signals.specs.declared.register_updates.CycleEnd.TheVariants.{Going, Stopped, Pip}
use Rattle.dp_signals.specs.declared.pipe_state.PipeState.{PipeState}
use Rattle.pipe_stage_text.specs.Cycle.{cycle_text, end_line}
use Rattle.pipe_stage_text.specs.Diagram.{diagram, shown_cycle}
use Rattle.pipe_stage_text.specs.Numbers.{number_pair}
use Rattle.pipe_stage_text.specs.Sources.{SourceNames, sources}
use Rattle.pipe_stage_text.specs.StageContents.{fetched, first_watch, moved_watch}
use Rattle.pipe_stage_text.specs.declared.diagram.DiagramCycle.{DiagramCycle}
use Rattle.pipe_stage_text.specs.declared.stage_content.StageContent.{StageContent}
use Rattle.pipe_stage_text.specs.declared.stage_contents.StageContents.{StageContents}
use Rattle.pipe_stage_text.specs.declared.observer.CycleRange.{CycleRange}

-- an observed machine: its state, what its stages hold, how many instructions retired, how it ended, the text of the
-- cycles so far, and what the diagram shows of them
pub record Observer : Type 0 where
  pub state : PipeState
  pub watch : StageContents
  pub retired : ℕ
  pub end : Stat
  pub text : List ℕ
  pub cycles : List DiagramCycle

abbrev pub seen : PipeState → StageContents → ℕ → Stat → List ℕ → List DiagramCycle → Observer
seen state watch retired end text cycles =
    record { state = state; watch = watch; retired = retired; end = end; text = text; cycles = cycles }

abbrev pub goes_on : CycleEnd → Bool
goes_on Going = true
goes_on Stopped = false
goes_on Pip = false

abbrev pub is_within : CycleRange → ℕ → Bool
is_within window number = nat_le window.from number && nat_le number window.to

-- the lines that are shown of a cycle, and what the diagram shows of it; `tells` gives the sources of picked values
abbrev pub lines_shown : ((ℕ → ℕ) → SourceNames) → CycleRange → ℕ → StageContents → StageContent → PipeState → (ℕ → ℕ) → List ℕ
lines_shown tells window number watch fetch p f =
    if not window.diagram && is_within window number then cycle_text number watch fetch p f (tells f) else []

abbrev pub cycle_shown : ℕ → StageContents → StageContent → (ℕ → ℕ) → DiagramCycle
cycle_shown number watch fetch f = shown_cycle number watch fetch (requested_updates f) (goes_on (ending f))

abbrev pub cycles_shown : CycleRange → ℕ → StageContents → StageContent → (ℕ → ℕ) → List DiagramCycle
cycles_shown window number watch fetch f = if window.diagram && is_within window number then cycle_shown number watch fetch f ∷ [] else []

-- what the diagram shows of the next cycle of an observed machine
abbrev pub shown_of : ℕ → Observer → (ℕ → ℕ) → DiagramCycle
shown_of number s f = cycle_shown number s.watch (fetched s.watch s.state f) f

-- the observed machine after the cycle with this number and these values
unfoldable pub after : ((ℕ → ℕ) → SourceNames) → CycleRange → ℕ → Observer → (ℕ → ℕ) → Observer
after tells window number s f =
    let fetch = fetched s.watch s.state f in
    seen (next s.state f) (moved_watch s.watch fetch (requested_updates f)) (s.retired + length (option_to_list (retires s.state f))) (end_by (ending f) (stat_of (f row.Stat)))
    (s.text ++ lines_shown tells window number s.watch fetch s.state f) (s.cycles ++ cycles_shown window number s.watch fetch f)

abbrev pub first_seen : List ℕ → Observer
first_seen image = seen (start_state image) first_watch 0 stat.Aok [] []

-- s is the observed machine of the design on an image after k cycles, before each of which it had not ended; cycles are
-- numbered from 1
abbrev pub Observes : Variant → List Term → CycleRange → List ℕ → ℕ → Observer → Type 0
Observes v terms window image zero s = s ≡ first_seen image
Observes v terms window image (suc k) s =
    (u : Observer) × (f : ℕ → ℕ) × Observes v terms window image k u × (is_aok u.end ≡ true) × Solves v terms u.state f
    × (s ≡ after (sources pipe_rows terms) window (suc k) u f)

-- the same at its end, or at the limit of cycles if it doesn't end before
pub record ObservesTo (v : Variant) (terms : List Term) (window : CycleRange) (image : List ℕ) (limit k : ℕ) (s : Observer) : Type 0 where
  pub within : k ≤ limit
  pub watches : Observes v terms window image k s
  pub whole : k < limit → is_aok s.end ≡ false

-- ---- what is shown of a run

abbrev pub diagram_shown : (ℕ → Option (List ℕ)) → Bool → Observer → List ℕ
diagram_shown listing asked s = if asked then diagram listing s.watch.rows s.cycles else []

-- the lines of the cycles, the diagram, with what is listed at each address, and the line of the end
unfoldable pub whole_text : (ℕ → Option (List ℕ)) → Bool → ℕ → Observer → List ℕ
whole_text listing asked cycles s = s.text ++ (diagram_shown listing asked s ++ end_line s.end cycles s.retired)

-- the text and the end of the run of an image
abbrev pub ShowsRun : Variant → List Term → (ℕ → Option (List ℕ)) → CycleRange → List ℕ → ℕ → List ℕ → Stat → Type 0
ShowsRun v terms listing window image limit text end =
    (k : ℕ) × (s : Observer) × ObservesTo v terms window image limit k s × (text ≡ whole_text listing window.diagram k s) × (end ≡ s.end)

-- ---- the observed machine is the machine of the run: its state, its end, and the number of its records

pub record IsOfRun (s : Observer) (p : PipeHistory) : Type 0 where
  pub state : s.state ≡ p.state
  pub end : s.end ≡ p.end
  pub retired : s.retired ≡ length p.records

abbrev pub ObserverFollowsRun : Type 0
ObserverFollowsRun =
    (v : Variant) (terms : List Term) (window : CycleRange) (image : List ℕ) (k : ℕ) (s : Observer) → Observes v terms window image k s →
    (p : PipeHistory) × PipeRun v terms image k p × IsOfRun s p
