-- The refusal of a design without control values, and the verdict on a design for PIPE, as answers.
use Rattle.std.specs.Prelude.{◌≡◌, ◌⊎◌, ℕ, codes, Bool, List, [], ◌∷◌}
use Rattle.ctl_atoms.specs.Atoms.{IsFirstMixed, IsOver64}
use Rattle.control_check.specs.PipeVerdicts as pipe
use Rattle.dp_signals.specs.PipeTable.{pipe_rows}
use Rattle.hcl_types.specs.Tables.{row_names}
use Rattle.hcl_types.specs.declared.table.Row.{Row}
use Rattle.hcl_types.specs.declared.term.Term.{Term}
use Rattle.pipe_motion.specs.declared.settings.Settings.{Settings}
use Rattle.verdict_text.specs.PipeLines.{pipe_no, pipe_yes}
use Rattle.y86_base.specs.declared.parts.Variant.{Variant}
use Rattle.cli_plans.specs.Lines.{blank_names, names_at, names_line}
use Rattle.cli_plans.specs.Plan.{Answer, done, refused}
use Rattle.cli_verdicts.specs.declared.verdict.PipeDecision.{PipeDecision}
use Rattle.cli_verdicts.specs.declared.verdict.PipeDecision.TheVariants as decided
use Rattle.cli_verdicts.specs.declared.verdict.PipeVerdictText.{PipeVerdictText}
use Rattle.cli_verdicts.specs.declared.verdict.PipeVerdictText.TheVariants as pipe_text

-- the refusal of a design in which a definition mixes codes with words: it reports the first such definition
pub record RefusesMixed (name : List ℕ) (rows : List Row) (terms : List Term) (a : Answer) : Type 0 where
  pub row : ℕ
  pub first : IsFirstMixed rows terms row
  pub told : a ≡ refused 5 (names_line name (codes "Mixed") (blank_names (names_at (row_names rows) (row ∷ []))))

-- the refusal of a design with more than 64 atoms
pub record RefusesAtoms (name : List ℕ) (rows : List Row) (terms : List Term) (a : Answer) : Type 0 where
  pub over : IsOver64 rows terms
  pub told : a ≡ refused 5 (names_line name (codes "AtomsOver64") [])

abbrev pub RefusesControl : List ℕ → List Row → List Term → Answer → Type 0
RefusesControl name rows terms a = RefusesMixed name rows terms a ⊎ RefusesAtoms name rows terms a

-- ---- for PIPE

-- `yes`: the design satisfies every obligation at its settings, so its pipeline refines the run of instructions
pub record AnswersYesPipe (v : Variant) (terms : List Term) (a : Answer) : Type 0 where
  pub settings : Settings
  pub accepted : pipe.AcceptsPipe v terms settings
  pub refines : pipe.RefinesPipe v terms
  pub told : a ≡ done 0 (pipe_yes settings)

-- `no`: the first obligation that is false at some valuation, and the least such valuation, at the design's settings
pub record AnswersNoPipe (v : Variant) (terms : List Term) (a : Answer) : Type 0 where
  pub rule : ℕ
  pub valuation : List Bool
  pub rejected : pipe.RejectsPipe v terms rule valuation
  pub told : a ≡ done 1 (pipe_no (row_names pipe_rows) rule valuation rejected.settings.atoms)

-- the answers to the check of a design for PIPE that isn't accepted
abbrev pub RefusesPipe : List ℕ → Variant → List Term → Answer → Type 0
RefusesPipe name v terms a = AnswersNoPipe v terms a ⊎ RefusesControl name pipe_rows terms a

-- the settings of an accepted design for PIPE, or the text of a `no`
abbrev pub IsPipeDecision : Variant → List Term → PipeDecision → Type 0
IsPipeDecision v terms (decided.Yes settings) = pipe.AcceptsPipe v terms settings × pipe.RefinesPipe v terms
IsPipeDecision v terms (decided.No text) = AnswersNoPipe v terms (done 1 text.items)

-- the text is that of a `yes` or a `no` for a PIPE design
abbrev pub IsPipeVerdictText : Variant → List Term → PipeVerdictText → Type 0
IsPipeVerdictText v terms (pipe_text.Yes text) = AnswersYesPipe v terms (done 0 text.items)
IsPipeVerdictText v terms (pipe_text.No text) = AnswersNoPipe v terms (done 1 text.items)
