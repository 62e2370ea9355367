-- What each command that prints or runs a file answers, as a plan.
use Rattle.std.specs.Prelude.{◌≡◌, ℕ, Bool, true, false, List, [], ◌++◌, length, Result, Ok, Err}
use Rattle.dp_signals.specs.PipeRun.{PipeHistory}
use Rattle.dp_signals.specs.PipeTable.{pipe_rows}
use Rattle.hcl_print.specs.Print as hcl_text
use Rattle.hcl_read.specs.Read.{ReadsAs}
use Rattle.y86_base.specs.declared.parts.Variant.{Variant}
use Rattle.hcl_types.specs.declared.term.Term.{Term}
use Rattle.y86_isa.specs.Run.{run, records}
use Rattle.y86_isa.specs.declared.machine.Machine.{Machine}
use Rattle.y86_isa.specs.declared.machine.Rec.{Rec}
use Rattle.yas_asm.specs.Assembly.{assembled}
use Rattle.yas_asm.specs.declared.fault.AsmFault.{AsmFault}
use Rattle.yas_asm.specs.declared.listing.Line.{Line}
use Rattle.yis_run.specs.Report.{report}
use Rattle.yo_object.specs.ObjectText.{object_of}
use Rattle.yo_object.specs.Printed.{printed}
use Rattle.cli_runs.specs.Big.{BigAnswers}
use Rattle.cli_verdicts.specs.Verdicts.{AnswersYesPipe, RefusesPipe}
use Rattle.cli_plans.specs.Datapaths.{IsMachineRun}
use Rattle.seq_plus.specs.Datapaths.{rows_of}
use Rattle.hcl_design.specs.Designs.{IsDesign}
use Rattle.cli_plans.specs.Designs.{RefusesDesign, RefusesHcl}
use Rattle.cli_plans.specs.Lines.{assembly_fault_line}
use Rattle.cli_runs.specs.PipeRuns.{RunsTo, run_text}
use Rattle.cli_plans.specs.Plan.{Answer, Plan, value_from, answers, done, value_in, reads, refused, answer_in}
use Rattle.hcl_types.specs.declared.table.SequentialDatapath.{SequentialDatapath}
use Rattle.cli_plans.specs.Stages.{file_limit, hcl_limit, image_of_text, run_status}

-- the object text of a source, or the refusal of a source with a fault
abbrev pub text_of_listing : List ℕ → List ℕ → Result (List Line) AsmFault → Result (List ℕ) Answer
text_of_listing name source (Ok lines) = Ok (printed (record { lines = lines; source = source }))
text_of_listing name source (Err fault) = Err (refused 5 (assembly_fault_line name fault))

-- the answer to the run of an image at the level of instructions
unfoldable pub yis_run : Variant → List ℕ → ℕ → Answer
yis_run v image limit =
    done (run_status (run v image limit).stat) (report image (run v image limit) (length (records v image limit)))

-- the answers to the run of an image on a sequential datapath under a design: the steps of the report are its records
abbrev pub SeqAnswers : SequentialDatapath → Variant → List Term → ℕ → List ℕ → Answer → Type 0
SeqAnswers which v terms limit image a =
    (end : Machine) × (records : List Rec) × IsMachineRun which v terms image limit end records × (a ≡ done (run_status end.stat) (report image end (length records)))

-- the answers to the run of an image on PIPE under a design, after the text of a verdict
abbrev pub PipeAnswers : Variant → List Term → ℕ → Bool → List ℕ → List ℕ → Answer → Type 0
PipeAnswers v terms limit trace verdict image a =
    (cycles : ℕ) × (end : PipeHistory) × RunsTo v terms image limit cycles end × (a ≡ done (run_status end.end) (verdict ++ run_text trace image cycles end))

-- ---- the commands

unfoldable pub yas_plan : List ℕ → ℕ → Variant → Plan
yas_plan source size v =
    reads source file_limit (λ bytes. value_from (text_of_listing source bytes (assembled v bytes size)) (λ text. answers (done 0 text)))

unfoldable pub yis_plan : List ℕ → ℕ → ℕ → Variant → Plan
yis_plan object size limit v =
    reads object file_limit (λ bytes. value_from (image_of_text object (object_of bytes size)) (λ image. answers (yis_run v image limit)))

unfoldable pub hcl_plan : List ℕ → Plan
hcl_plan name = reads name hcl_limit (λ text. value_in (ReadsAs text) (RefusesHcl name text) (λ file. answers (done 0 (hcl_text.printed file.items))))

-- the run of an object file on a sequential datapath under a design
unfoldable pub seq_plan : SequentialDatapath → List Term → List ℕ → ℕ → ℕ → Variant → Plan
seq_plan which terms object size limit v =
    reads object file_limit (λ bytes. value_from (image_of_text object (object_of bytes size)) (λ image. answer_in (SeqAnswers which v terms limit image)))

unfoldable pub ssim_plan : SequentialDatapath → List ℕ → List ℕ → ℕ → ℕ → Variant → Plan
ssim_plan which name object size limit v =
    reads name hcl_limit (λ text. value_in (IsDesign (rows_of which) text) (RefusesDesign name (rows_of which) text) (λ terms. seq_plan which terms object size limit v))

-- the run of an object file on PIPE under a design, after the text of a verdict
unfoldable pub pipe_plan : List ℕ → List Term → List ℕ → ℕ → ℕ → Bool → Variant → Plan
pipe_plan verdict terms object size limit trace v =
    reads object file_limit (λ bytes. value_from (image_of_text object (object_of bytes size)) (λ image. answer_in (PipeAnswers v terms limit trace verdict image)))

-- the same, but a check may be asked for; if it is, the object file runs only after a `yes`, which is printed first
unfoldable pub checked_plan : List ℕ → List Term → List ℕ → ℕ → ℕ → Bool → Bool → Variant → Plan
checked_plan name terms object size limit trace false v = pipe_plan [] terms object size limit trace v
checked_plan name terms object size limit trace true v =
    value_in (λ yes. AnswersYesPipe v terms (done 0 yes)) (RefusesPipe name v terms) (λ yes. pipe_plan yes terms object size limit trace v)

unfoldable pub psim_plan : List ℕ → List ℕ → ℕ → ℕ → Bool → Bool → Variant → Plan
psim_plan name object size limit trace checked v =
    reads name hcl_limit (λ text. value_in (IsDesign pipe_rows text) (RefusesDesign name pipe_rows text) (λ terms. checked_plan name terms object size limit trace checked v))

-- a generated program, run by the instructions and on PIPE under a design
unfoldable pub big_plan : ℕ → List ℕ → Variant → Plan
big_plan n name v =
    reads name hcl_limit (λ text. value_in (IsDesign pipe_rows text) (RefusesDesign name pipe_rows text) (λ terms. answer_in (BigAnswers v terms n)))
