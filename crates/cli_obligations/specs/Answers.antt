-- What each command on the obligations of a file answers, as a plan.
use Rattle.std.specs.Prelude.{ℕ, List}
use Rattle.ctl_atoms.specs.Atoms.{AreAtoms}
use Rattle.dp_signals.specs.PipeTable.{pipe_rows}
use Rattle.y86_base.specs.declared.parts.Variant.{Variant}
use Rattle.hcl_types.specs.declared.term.Term.{Term}
use Rattle.cli_obligations.specs.AigerTexts.{AigAnswers, AigrunAnswers}
use Rattle.cli_obligations.specs.Certified.{PipeCertifies, Rechecks, cert_limit}
use Rattle.cli_verdicts.specs.Verdicts.{RefusesControl}
use Rattle.hcl_design.specs.Designs.{IsDesign}
use Rattle.cli_plans.specs.Designs.{RefusesDesign}
use Rattle.cli_obligations.specs.Samples.{SampleAnswers}
use Rattle.cli_plans.specs.Plan.{Plan, value_in, reads, answer_in}
use Rattle.cli_plans.specs.Stages.{hcl_limit}

-- drawn valuations against the obligations of a design for PIPE
unfoldable pub sample_plan : List ℕ → ℕ → ℕ → Variant → Plan
sample_plan name seed count v =
    reads name hcl_limit (λ text. value_in (IsDesign pipe_rows text) (RefusesDesign name pipe_rows text) (λ terms. answer_in (SampleAnswers name v terms seed count)))

-- the obligations of a design for PIPE
unfoldable pub aig_plan : List ℕ → Variant → Plan
aig_plan name v =
    reads name hcl_limit (λ text. value_in (IsDesign pipe_rows text) (RefusesDesign name pipe_rows text) (λ terms. answer_in (AigAnswers name v terms)))

-- the most bytes of an AIGER text
abbrev pub aag_limit : ℕ
aag_limit = 33554432

-- the counts of an AIGER text
unfoldable pub aigrun_plan : List ℕ → ℕ → Plan
aigrun_plan name seed = reads name aag_limit (λ text. answer_in (AigrunAnswers name text seed))

-- the verdict on a design for PIPE, with a certificate if it is accepted
unfoldable pub certify_pipe_plan : List ℕ → Variant → Plan
certify_pipe_plan name v =
    reads name hcl_limit (λ text. value_in (IsDesign pipe_rows text) (RefusesDesign name pipe_rows text) (λ terms. answer_in (PipeCertifies name v terms)))

-- the check of a certificate of a design with control values
unfoldable pub certificate_plan : List ℕ → Variant → List Term → Plan
certificate_plan cert v terms = reads cert cert_limit (λ bytes. answer_in (Rechecks cert v terms bytes))

unfoldable pub recheck_plan : List ℕ → List ℕ → Variant → Plan
recheck_plan name cert v =
    reads name hcl_limit (λ text. value_in (IsDesign pipe_rows text) (RefusesDesign name pipe_rows text) (λ terms.
    value_in (AreAtoms pipe_rows terms) (RefusesControl name pipe_rows terms) (λ atoms. certificate_plan cert v terms)))
