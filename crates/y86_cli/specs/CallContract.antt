-- What a call of the whole program did, compared with the plan of its words.
use Rattle.std.specs.Prelude.{◌≡◌, ◌≢◌, ◌⊎◌, ℕ, ◌≤◌, List, Option, Some, None, Result, Err}
use Rattle.wb_io.specs.Causes.{counted}
use Rattle.wb_io.specs.Sinks.{Appended, AppendedPrefix}
use Rattle.cli_plans.specs.declared.stop_reason.StopReason as code
use Rattle.cli_plans.specs.declared.stop_reason.StopReason.TheVariants.{Usage}
use Rattle.y86_cli.specs.Answers.{plan_in, plan_of}
use Rattle.cli_plans.specs.CallOutcome.{IsPermitted, IsReached}
use Rattle.cli_plans.specs.PlanFollowing.{CallStates, FollowsPlan, FilesState, SinkState}
use Rattle.y86_words.specs.Forms.{Command}
use Rattle.cli_plans.specs.Lines.{memory_line, read_fault_line}
use Rattle.cli_plans.specs.Plan.{Answer, IsFaultless, Plan, HasContents}
use Rattle.cli_plans.specs.Calls.{WroteError}

-- the command was carried out, or there is none and nothing was read or written
unfoldable pub CommandOutcome : Option Command → FilesState → FilesState → SinkState → SinkState → Result ℕ code.StopReason → Type 0
CommandOutcome None files_before files_after before after result = (result ≡ Err Usage) × (files_after ≡ files_before) × (after ≡ before)
CommandOutcome (Some command) files_before files_after before after result = FollowsPlan (plan_of command) files_before files_after before after result

-- an answer on both streams: whole, or with status 4 a proper prefix of its text on standard output
pub record DeliversOnBoth (a : Answer) (out_before out_after err_before err_after : SinkState) (status : ℕ) : Type 0 where
  pub status_is : status ≢ 4 → status ≡ a.status
  pub out : status ≢ 4 → Appended out_before.taken out_after.taken a.out
  pub part : status ≡ 4 → AppendedPrefix out_before.taken out_after.taken a.out
  pub err : status ≢ 4 → WroteError err_before err_after a.err

-- a read of a file that the plan reaches failed, just once, and the line on standard error names the file
pub record ReadFailed (plan : Plan) (files_before files_after : FilesState) (err_before err_after : SinkState) : Type 0 where
  pub name : List ℕ
  pub reached : IsReached plan files_before.told name
  pub failed : files_after.faults name ≡ counted (files_before.faults name)
  pub line : WroteError err_before err_after (read_fault_line name)

pub record CallContract (form : Option Command) (files_before files_after : FilesState) (out_before out_after err_before err_after : SinkState) (status : ℕ) : Type 0 where
  pub at_most_seven : status ≤ 7
  -- the status is 2 only if the words form no command
  pub usage : status ≡ 2 → form ≡ None
  -- except for a failed read and out of memory, the answer is one that is allowed
  pub answer : status ≢ 3 → status ≢ 6 →
      (a : Answer) × IsPermitted (plan_in form) files_before.told a × DeliversOnBoth a out_before out_after err_before err_after status
  -- with status 3 exactly one read of the file failed, and with every other status no read of any file
  pub read_failed : status ≡ 3 → ReadFailed (plan_in form) files_before files_after err_before err_after
  pub no_read_failed : status ≢ 3 → (name : List ℕ) → files_after.faults name ≡ files_before.faults name
  -- with status 4 exactly one write on standard output failed, and with every other status none
  pub write_failed : status ≡ 4 → out_after.faults ≡ counted out_before.faults
  pub no_write_failed : status ≢ 4 → out_after.faults ≡ out_before.faults
  -- with status 2, 3, 5, 6 and 7 nothing is written on standard output
  pub nothing_out : status ≢ 0 → status ≢ 1 → status ≢ 4 → out_after ≡ out_before
  pub err_memory : status ≡ 6 → WroteError err_before err_after memory_line
  -- with status 0, 1 and 4 nothing is written on standard error
  pub nothing_err : (status ≤ 1) ⊎ (status ≡ 4) → err_after ≡ err_before
  -- if no file that the plan reaches has a fault, and no read and no write on standard output failed, the status is 0
  -- or 1, or memory was out
  pub complete : (contents : List (Option (List ℕ))) → HasContents files_before.told (plan_in form) contents → IsFaultless (plan_in form) contents →
      status ≢ 3 → status ≢ 4 → (status ≡ 6) ⊎ (status ≤ 1)

-- the same for the states before and after the call
abbrev pub MeetsContract : Option Command → CallStates → ℕ → Type 0
MeetsContract form call status =
    CallContract form call.files_before call.files_after call.out_before call.out_after call.err_before call.err_after status
