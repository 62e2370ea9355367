-- The outcome of a program's run under an HCL file, compared with its run by instructions, and whether the theorem on
-- accepted files predicts it.
use Rattle.std.specs.Prelude.{◌≡◌, ℕ, Bool, true, false, List}
use Rattle.control_check.specs.PipeVerdicts.{AcceptsPipe, IsPipeFault, RefinesPipe, RejectsPipe}
use Rattle.cosimulation.specs.Lockstep.{IsCompared}
use Rattle.cosimulation.specs.declared.lockstep.Compared.{Compared}
use Rattle.cosimulation.specs.declared.lockstep.Compared.TheVariants.{Same, Open, Record, State}
use Rattle.hcl_types.specs.declared.term.Term.{Term}
use Rattle.pipe_motion.specs.declared.settings.Settings.{Settings}
use Rattle.pipe_path.specs.Pipe.{started}
use Rattle.program_check.specs.Near.{IsWatched}
use Rattle.program_check.specs.declared.watching.Watched.{Watched}
use Rattle.program_check.specs.declared.watching.Watched.TheVariants.{Apart, Meets}
use Rattle.ctl_verdicts.specs.declared.fault.CheckFault.TheVariants.{Ctl}
use Rattle.y86_base.specs.declared.parts.Variant.{Variant}
use Rattle.y86_isa.specs.Machine.{start}
use Rattle.y86_isa.specs.Run.{run}
use Rattle.run_report.specs.declared.outcome.Judged.{Judged}
use Rattle.run_report.specs.declared.outcome.Judged.TheVariants.{Yes, No, Unknown, Unasked}
use Rattle.run_report.specs.declared.outcome.Outcome.{Outcome}

-- the check's answer on a design: accepted, and then its pipeline does what the instructions mean; the first obligation
-- that is false somewhere; or no control values. The check may also not have been asked.
abbrev pub IsJudged : Variant → List Term → Judged → Type 0
IsJudged v terms Yes = (s : Settings) × AcceptsPipe v terms s × RefinesPipe v terms
IsJudged v terms (No rule) = (w : List Bool) × RejectsPipe v terms rule w
IsJudged v terms (Unknown fault) = IsPipeFault terms (Ctl fault)
IsJudged v terms Unasked = Unit {0}

-- how many instructions retired as they should, before the first difference or in the whole run
abbrev pub right_count : Compared → ℕ
right_count (Same steps cycles) = steps
right_count (Open steps) = steps
right_count (Record d) = d.before
right_count (State steps cycles part) = steps

-- both runs ended, with the same records and in the same state
abbrev pub is_same : Compared → Bool
is_same (Same steps cycles) = true
is_same (Open steps) = false
is_same (Record d) = false
is_same (State steps cycles part) = false

-- The outcome of the run of an image: the first record or final state that differs, the machine of the instructions
-- before it, what is known of the program, and the check's answer on the file.
pub record IsOutcome (v : Variant) (terms : List Term) (order image : List ℕ) (limit : ℕ) (o : Outcome) : Type 0 where
  pub compared : IsCompared v (started v terms order image) (start image) limit o.compared
  pub machine : o.machine ≡ run v image (right_count o.compared)
  pub watched : IsWatched v image limit o.watched
  pub judged : IsJudged v terms o.judged

-- the program stops, and no instruction fetches a byte that one of the three instructions before it stored
abbrev pub is_apart : Watched → Bool
is_apart (Apart steps stopped) = stopped
is_apart (Meets f) = false

-- the theorem covers the run: the file is accepted, and the program meets the theorem's premise
abbrev pub is_covered : Judged → Watched → Bool
is_covered Yes w = is_apart w
is_covered (No rule) w = false
is_covered (Unknown fault) w = false
is_covered Unasked w = false
