-- What the program shows of a run, as an answer, and the plan of a call.
use Rattle.std.specs.Prelude.{◌≡◌, ℕ, List, Option}
use Rattle.hcl_types.specs.declared.term.Term.{Term}
use Rattle.seq_plus.specs.PlusRun.{plus_start}
use Rattle.seq_plus.specs.Datapaths.{table_rows}
use Rattle.seq_text.specs.Observer as seq
use Rattle.pipe_stage_text.specs.Listed.{listed}
use Rattle.pipe_stage_text.specs.Observer.{ShowsRun}
use Rattle.pipe_stage_text.specs.declared.observer.CycleRange.{CycleRange}
use Rattle.y86_base.specs.declared.parts.Stat.{Stat}
use Rattle.y86_base.specs.declared.parts.Variant.{Variant}
use Rattle.cli_plans.specs.Stages.{file_limit, hcl_limit, image_of_text, run_status}
use Rattle.hcl_design.specs.Designs.{IsDesign}
use Rattle.cli_plans.specs.Designs.{RefusesDesign}
use Rattle.cli_plans.specs.Plan.{Answer, Plan, value_from, done, value_in, reads, answer_in}
use Rattle.y86_isa.specs.Machine.{start}
use Rattle.yo_object.specs.ObjectText.{object_of}
use Rattle.hcl_types.specs.declared.table.Datapath.{Datapath}
use Rattle.hcl_types.specs.declared.table.Datapath.TheVariants.{Pipe, Seq, SeqPlus}

-- the text and the end of the run of an image under a design; `listing` has the text that is listed at each address
unfoldable pub Shows : Datapath → Variant → List Term → (ℕ → Option (List ℕ)) → ℕ → CycleRange → List ℕ → List ℕ → Stat → Type 0
Shows Pipe v terms listing limit window image text end = ShowsRun v terms listing window image limit text end
Shows Seq v terms listing limit window image text end = seq.ShowsRun (seq.SeqShows v terms) seq.seq_stat window (start image) limit text end
Shows SeqPlus v terms listing limit window image text end = seq.ShowsRun (seq.PlusShows v terms) seq.plus_stat window (plus_start image) limit text end

-- the answers to that run
abbrev pub ShownAnswers : Datapath → Variant → List Term → (ℕ → Option (List ℕ)) → ℕ → CycleRange → List ℕ → Answer → Type 0
ShownAnswers processor v terms listing limit window image a =
    (text : List ℕ) × (end : Stat) × Shows processor v terms listing limit window image text end × (a ≡ done (run_status end) text)

-- the run of an object file under a design
unfoldable pub object_plan : Datapath → List Term → List ℕ → ℕ → ℕ → Variant → CycleRange → Plan
object_plan processor terms object size limit v window =
    reads object file_limit (λ bytes.
    value_from (image_of_text object (object_of bytes size)) (λ image. answer_in (ShownAnswers processor v terms (listed bytes) limit window image)))

-- the run of an object file under an HCL file: the files are read and refused as by `psim`, `ssim` and `ssimp`
unfoldable pub stages_plan : Datapath → List ℕ → List ℕ → ℕ → ℕ → Variant → CycleRange → Plan
stages_plan processor name object size limit v window =
    reads name hcl_limit (λ text.
    value_in (IsDesign (table_rows processor) text) (RefusesDesign name (table_rows processor) text) (λ terms. object_plan processor terms object size limit v window))
