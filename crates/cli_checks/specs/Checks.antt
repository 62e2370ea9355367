-- The verdicts on designs, as answers.
use Rattle.std.specs.Prelude.{◌≡◌, ◌⊎◌, ℕ, codes, Bool, List}
use Rattle.hcl_types.specs.declared.term.Term.{Term}
use Rattle.y86_base.specs.declared.parts.Variant.{Variant}
use Rattle.cli_checks.specs.Sequential.{no_text}
use Rattle.seq_plus.specs.Datapaths.{rows_of}
use Rattle.seq_check.specs.Verdicts.{Accepts, Refines, Rejects}
use Rattle.cli_plans.specs.Plan.{Answer, done}
use Rattle.hcl_types.specs.declared.table.SequentialDatapath.{SequentialDatapath}
use Rattle.cli_verdicts.specs.Verdicts.{AnswersYesPipe, RefusesControl, RefusesPipe}

-- ---- for a sequential datapath

-- `yes`: the design satisfies every obligation, so its machine is that of the run of instructions
pub record AnswersYesSeq (which : SequentialDatapath) (v : Variant) (terms : List Term) (a : Answer) : Type 0 where
  pub accepted : Accepts which v terms
  pub refines : Refines which v terms
  pub told : a ≡ done 0 (codes "yes\n")

-- `no`: the first obligation that is false at some valuation, and the least such valuation
pub record AnswersNoSeq (which : SequentialDatapath) (v : Variant) (terms : List Term) (a : Answer) : Type 0 where
  pub rule : ℕ
  pub valuation : List Bool
  pub rejected : Rejects which v terms rule valuation
  pub told : a ≡ done 1 (no_text which rule valuation rejected.atoms)

-- the answers to the check of a design
abbrev pub SeqChecks : SequentialDatapath → List ℕ → Variant → List Term → Answer → Type 0
SeqChecks which name v terms a = AnswersYesSeq which v terms a ⊎ (AnswersNoSeq which v terms a ⊎ RefusesControl name (rows_of which) terms a)

-- ---- for the pipeline

-- the answers to the check of a design for PIPE
abbrev pub PipeChecks : List ℕ → Variant → List Term → Answer → Type 0
PipeChecks name v terms a = AnswersYesPipe v terms a ⊎ RefusesPipe name v terms a
