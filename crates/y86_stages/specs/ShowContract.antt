-- What a call of the program did to files and streams.
use Rattle.std.specs.Prelude.{◌≡◌, ◌⊎◌, ℕ, ◌||◌, if◌then◌else◌, List, Option, Some, None, Result, Ok, Err, codes}
use Rattle.pipe_stage_text.specs.declared.observer.CycleRange.{CycleRange}
use Rattle.y86_base.specs.declared.parts.Variant.{Variant}
use Rattle.cli_plans.specs.PlanFollowing.{FollowsPlan, FilesState, SinkState}
use Rattle.cli_plans.specs.Calls.{WroteError}
use Rattle.cli_plans.specs.Stops.{line_of, status_of}
use Rattle.cli_plans.specs.declared.stop_reason.StopReason as code
use Rattle.cli_plans.specs.declared.stop_reason.StopReason.TheVariants.{Memory, Usage}
use Rattle.y86_words.specs.Forms.{Command, form_of, psim}
use Rattle.y86_stages.specs.declared.request.RunRequest as code_request
use Rattle.hcl_types.specs.declared.table.Datapath.{Datapath}
use Rattle.hcl_types.specs.declared.table.Datapath.TheVariants.{Pipe}
use Rattle.y86_stages.specs.ShowAnswers.{stages_plan}
use Rattle.y86_stages.specs.ScannedWords.{Scanned, first_read, window_of}

abbrev pub usage : List ℕ
usage = codes "usage: y86-stages HCL OBJ [--seq|--seqplus] [--full] [--mem N] [--limit N] [--from N] [--to N] [--diagram]\n"

-- the line on standard error for a stop
abbrev pub stop_line : code.StopReason → List ℕ
stop_line Usage = usage
stop_line stop = line_of stop

-- a run that is to be shown: the files, the size of the memory, the limit of cycles, the instruction set
pub record Request : Type 0 where
  pub name : List ℕ
  pub object : List ℕ
  pub size : ℕ
  pub limit : ℕ
  pub variant : Variant

-- the words are those of `psim`, without `--trace` and without `--checked`
abbrev pub request_of : Option Command → Option Request
request_of (Some (psim name object size limit trace checked v)) =
    if trace || checked then None else Some (record { name = name; object = object; size = size; limit = limit; variant = v })
request_of _ = None

abbrev pub request_in : code_request.RunRequest → Request
request_in r = record { name = r.hcl.now; object = r.object.now; size = r.memory; limit = r.limit; variant = r.variant }

-- the run is shown; or there is none, and nothing is read or written
unfoldable pub ShowOutcome : Datapath → Option Request → CycleRange → FilesState → FilesState → SinkState → SinkState → Result ℕ code.StopReason → Type 0
ShowOutcome processor None window files_before files_after before after result = (result ≡ Err Usage) × (files_after ≡ files_before) × (after ≡ before)
ShowOutcome processor (Some r) window files_before files_after before after result =
    FollowsPlan (stages_plan processor r.name r.object r.size r.limit r.variant window) files_before files_after before after result

-- the status, and the line on standard error
abbrev pub ReportsEnd : SinkState → SinkState → Result ℕ code.StopReason → ℕ → Type 0
ReportsEnd before after (Ok status) told = (told ≡ status) × (after ≡ before)
ReportsEnd before after (Err stop) told =
    (told ≡ status_of stop) × WroteError before after (stop_line stop) × (status_of stop ≡ 4 → after ≡ before)

-- a call with this meaning of its words, if they are valid
unfoldable pub CallEndsAs : Option Scanned → FilesState → FilesState → SinkState → SinkState → Result ℕ code.StopReason → Type 0
CallEndsAs None files_before files_after before after result = ShowOutcome Pipe None (window_of first_read) files_before files_after before after result
CallEndsAs (Some r) files_before files_after before after result =
    ShowOutcome r.processor (request_of (form_of r.words)) (window_of r) files_before files_after before after result

-- a call did what its words say and reported how that ended, or memory ran out and nothing was read or shown
pub record ShowContract (said : Option Scanned) (files_before files_after : FilesState) (out_before out_after err_before err_after : SinkState) (status : ℕ) : Type 0 where
  pub result : Result ℕ code.StopReason
  pub ends : CallEndsAs said files_before files_after out_before out_after result ⊎ ((result ≡ Err Memory) × (files_after ≡ files_before) × (out_after ≡ out_before))
  pub tells : ReportsEnd err_before err_after result status
