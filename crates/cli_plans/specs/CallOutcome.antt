-- The outcome of a plan: an answer for some contents that agree with what is known of the files, or a lost call.
use Rattle.std.specs.Prelude.{◌≡◌, ◌⊎◌, ℕ, ◌≤◌, List, [], Option, Some, Result, Ok, Err}
use Rattle.wb_io.specs.Causes.{counted}
use Rattle.wb_io.specs.Sinks.{Appended, AppendedPrefix}
use Rattle.cli_plans.specs.declared.stop_reason.StopReason as code
use Rattle.cli_plans.specs.PlanFollowing.{FilesState, SinkState}
use Rattle.cli_plans.specs.Known.{Known}
use Rattle.cli_plans.specs.Plan.{Answer, Plan, IsAnswerOf, ComesTo, MayBeAnswer, MayComeTo, HasContents}
use Rattle.cli_plans.specs.Stops.{answer_at, read_name, status_of}

-- an answer that is allowed for some contents that agree with what is known of the files, and for all contents that are
-- known
pub record IsPermitted (plan : Plan) (told : List ℕ → Known) (a : Answer) : Type 0 where
  pub by_some : MayBeAnswer told plan a
  pub by_told : (contents : List (Option (List ℕ))) → HasContents told plan contents → IsAnswerOf plan contents a

-- the plan reaches a file: for some contents that agree with what is known of the files, and for all contents that are
-- known
pub record IsReached (plan : Plan) (told : List ℕ → Known) (name : List ℕ) : Type 0 where
  pub by_some : MayComeTo told plan name
  pub by_told : (contents : List (Option (List ℕ))) → HasContents told plan contents → ComesTo plan contents name

-- a call gave an answer: whole; in part, if a write failed; or as a refusal
abbrev pub DeliversAnswer : Answer → SinkState → SinkState → Result ℕ code.StopReason → Type 0
DeliversAnswer a before after (Ok status) = (status ≡ a.status) × (status ≤ 1) × (a.err ≡ []) × Appended before.taken after.taken a.out × (after.faults ≡ before.faults)
DeliversAnswer a before after (Err stop) =
    ((status_of stop ≡ 4) × AppendedPrefix before.taken after.taken a.out × (after.faults ≡ counted before.faults))
    ⊎ ((5 ≤ status_of stop) × (a ≡ answer_at stop) × (after ≡ before))

-- out of memory, or a failed read of a file that the plan reaches
abbrev pub IsLostCall : Plan → FilesState → FilesState → code.StopReason → Type 0
IsLostCall plan before after stop =
    (status_of stop ≡ 6) ⊎ ((name : List ℕ) × (read_name stop ≡ Some name) × (after.faults name ≡ counted (before.faults name)) × IsReached plan before.told name)

abbrev pub LosesCall : Plan → FilesState → FilesState → SinkState → SinkState → Result ℕ code.StopReason → Type 0
LosesCall plan files_before files_after before after (Ok status) = ⊥
LosesCall plan files_before files_after before after (Err stop) = IsLostCall plan files_before files_after stop × (after ≡ before)

abbrev pub CallOutcome : Plan → FilesState → FilesState → SinkState → SinkState → Result ℕ code.StopReason → Type 0
CallOutcome plan files_before files_after before after result =
    LosesCall plan files_before files_after before after result ⊎ ((a : Answer) × IsPermitted plan files_before.told a × DeliversAnswer a before after result)
