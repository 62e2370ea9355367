-- The obligations of a design as an AIGER text, and the counts of the outputs of one, as answers.
use Rattle.std.specs.Prelude.{◌≡◌, ◌⊎◌, ◌↔◌, ℕ, ◌+◌, ◌<◌, codes, Bool, true, List, length, get_or}
use Rattle.pipe_obligations.specs.Rules.{rule_count}
use Rattle.aiger_out.specs.declared.fault.AagWhy.{AagWhy}
use Rattle.aiger_out.specs.declared.fault.AagWhy.TheVariants as whys
use Rattle.aiger_out.specs.declared.form.Header.{Header}
use Rattle.aiger_out.specs.Form.{IsFault}
use Rattle.aiger_out.specs.Values.{Out}
use Rattle.aiger_out.specs.Written.{IsAagOf}
use Rattle.aiger_run.specs.PrintedCounts.{PrintsCounts}
use Rattle.control_check.specs.PipeVerdicts.{AreSettings}
use Rattle.dp_signals.specs.PipeTable.{pipe_rows}
use Rattle.hcl_types.specs.declared.term.Term.{Term}
use Rattle.nets.specs.Nets.{Gates}
use Rattle.pipe_fields.specs.Layout.{bit_count}
use Rattle.pipe_motion.specs.declared.settings.Settings.{Settings}
use Rattle.pipe_obligations.specs.FileSettings.{IsFalseAt, PipeControls}
use Rattle.y86_base.specs.declared.parts.Variant.{Variant}
use Rattle.cli_verdicts.specs.Verdicts.{RefusesControl}
use Rattle.cli_plans.specs.Lines.{fault_line}
use Rattle.cli_plans.specs.Plan.{Answer, done, refused}

-- a well-formed text, with an input for each bit of a control valuation and 27 outputs, named by the obligations'
-- numbers: output i has a value at each valuation, and it is 1 exactly where obligation i + 1 is false there, at the
-- design's settings
pub record IsAigOfDesign (v : Variant) (terms : List Term) (text : List ℕ) : Type 0 where
  pub settings : Settings
  pub are : AreSettings v terms settings
  pub header : Header
  pub net : Gates
  pub gates : List ℕ
  pub numbers : List ℕ
  pub written : IsAagOf net gates numbers text header
  pub inputs : header.inputs ≡ bit_count + length are.atoms
  pub outputs : header.outputs ≡ rule_count
  pub names : (i : ℕ) → i < rule_count → get_or numbers i 0 ≡ i + 1
  pub tells : (i : ℕ) → i < rule_count → (w : List Bool) →
      (value : Bool) × Out header text i w value × ((value ≡ true) ↔ IsFalseAt v are.atoms (PipeControls terms) settings (i + 1) w)

pub record AnswersAig (v : Variant) (terms : List Term) (a : Answer) : Type 0 where
  pub text : List ℕ
  pub tells : IsAigOfDesign v terms text
  pub told : a ≡ done 0 text

-- what `aig` may answer for a design
abbrev pub AigAnswers : List ℕ → Variant → List Term → Answer → Type 0
AigAnswers name v terms a = AnswersAig v terms a ⊎ RefusesControl name pipe_rows terms a

-- ---- the counts of a text

abbrev pub aag_reason : AagWhy → List ℕ
aag_reason whys.Syntax = codes "Syntax"
aag_reason whys.Latches = codes "Latches"
aag_reason whys.TooMany = codes "TooMany"
aag_reason whys.Literal = codes "Literal"
aag_reason whys.Twice = codes "Twice"
aag_reason whys.Undefined = codes "Undefined"

pub record AnswersCounts (text : List ℕ) (seed : ℕ) (a : Answer) : Type 0 where
  pub counts : List ℕ
  pub tells : PrintsCounts text seed counts
  pub told : a ≡ done 0 counts

-- the refusal of a text: the first line with a fault, and the first fault of this line
pub record RefusesAag (name text : List ℕ) (a : Answer) : Type 0 where
  pub line : ℕ
  pub why : AagWhy
  pub fault : IsFault 1000000 text line why
  pub told : a ≡ refused 5 (fault_line name line (aag_reason why))

-- the answers to the counts of a text
abbrev pub AigrunAnswers : List ℕ → List ℕ → ℕ → Answer → Type 0
AigrunAnswers name text seed a = AnswersCounts text seed a ⊎ RefusesAag name text a
