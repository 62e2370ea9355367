-- What each check answers, as a plan.
use Rattle.std.specs.Prelude.{ℕ, List}
use Rattle.dp_signals.specs.PipeTable.{pipe_rows}
use Rattle.y86_base.specs.declared.parts.Variant.{Variant}
use Rattle.cli_checks.specs.Checks.{PipeChecks, SeqChecks}
use Rattle.seq_plus.specs.Datapaths.{rows_of}
use Rattle.hcl_design.specs.Designs.{IsDesign}
use Rattle.cli_plans.specs.Designs.{RefusesDesign}
use Rattle.cli_plans.specs.Plan.{Plan, value_in, reads, answer_in}
use Rattle.hcl_types.specs.declared.table.SequentialDatapath.{SequentialDatapath}
use Rattle.cli_plans.specs.Stages.{hcl_limit}

-- the verdict on a design for a sequential datapath
unfoldable pub check_seq_plan : SequentialDatapath → List ℕ → Variant → Plan
check_seq_plan which name v =
    reads name hcl_limit (λ text. value_in (IsDesign (rows_of which) text) (RefusesDesign name (rows_of which) text) (λ terms. answer_in (SeqChecks which name v terms)))

-- the verdict on a design for PIPE
unfoldable pub check_pipe_plan : List ℕ → Variant → Plan
check_pipe_plan name v =
    reads name hcl_limit (λ text. value_in (IsDesign pipe_rows text) (RefusesDesign name pipe_rows text) (λ terms. answer_in (PipeChecks name v terms)))
