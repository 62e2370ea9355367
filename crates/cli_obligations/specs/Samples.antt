-- What a sample of drawn valuations finds for a design, and its answers.
use Rattle.std.specs.Prelude.{◌≡◌, ◌⊎◌, ℕ, ◌<◌, ◌≤◌, codes, List, [], ◌∷◌, length, Option, Some, None}
use Rattle.std.specs.List.{concat}
use Rattle.pipe_obligations.specs.Rules.{rule_count}
use Rattle.control_check.specs.PipeVerdicts.{AreSettings}
use Rattle.dp_signals.specs.PipeTable.{pipe_rows}
use Rattle.hcl_types.specs.declared.term.Term.{Term}
use Rattle.lane_eval.specs.declared.search.Found.{Found}
use Rattle.pipe_motion.specs.declared.settings.Settings.{Settings}
use Rattle.pipe_obligations.specs.FileSettings.{IsFalseAt, PipeControls}
use Rattle.prog_gen.specs.Choices.{valuation}
use Rattle.y86_base.specs.Numeral.{numeral}
use Rattle.y86_base.specs.declared.parts.Variant.{Variant}
use Rattle.cli_verdicts.specs.Verdicts.{RefusesControl}
use Rattle.cli_plans.specs.Plan.{Answer, done}

-- the obligations at valuation i of a seed, drawn for an instruction set and the atoms of a design, at the design's settings
pub record DrawnOf (v : Variant) (terms : List Term) : Type 0 where
  pub settings : Settings
  pub are : AreSettings v terms settings

-- obligation k is false at valuation i
abbrev pub IsFalseDrawn : (v : Variant) (terms : List Term) → DrawnOf v terms → ℕ → ℕ → ℕ → Type 0
IsFalseDrawn v terms d seed i k = IsFalseAt v d.are.atoms (PipeControls terms) d.settings k (valuation v (length d.are.atoms) seed i)

-- no obligation is false at valuation i
abbrev pub NoneFalseDrawn : (v : Variant) (terms : List Term) → DrawnOf v terms → ℕ → ℕ → Type 0
NoneFalseDrawn v terms d seed i = (k : ℕ) → 1 ≤ k → k ≤ rule_count → IsFalseDrawn v terms d seed i k → ⊥

-- no obligation is false at any of the first `count` valuations
pub record FindsNone (v : Variant) (terms : List Term) (seed count : ℕ) : Type 0 where
  pub drawn : DrawnOf v terms
  pub none : (i : ℕ) → i < count → NoneFalseDrawn v terms drawn seed i

-- an obligation is false at one of them, none is false at an earlier one, and no obligation with a smaller number is
-- false at it
pub record FindsFirst (v : Variant) (terms : List Term) (seed count index rule : ℕ) : Type 0 where
  pub drawn : DrawnOf v terms
  pub within : index < count
  pub from_one : 1 ≤ rule
  pub to_last : rule ≤ rule_count
  pub fails : IsFalseDrawn v terms drawn seed index rule
  pub earlier : (i : ℕ) → i < index → NoneFalseDrawn v terms drawn seed i
  pub before : (k : ℕ) → 1 ≤ k → k < rule → IsFalseDrawn v terms drawn seed index k → ⊥

abbrev pub IsSampled : Variant → List Term → ℕ → ℕ → Option Found → Type 0
IsSampled v terms seed count None = FindsNone v terms seed count
IsSampled v terms seed count (Some found) = FindsFirst v terms seed count found.index found.rule

-- ---- as text

unfoldable pub none_line : ℕ → List ℕ
none_line count = concat (codes "none in " ∷ numeral 10 1 count ∷ codes "\n" ∷ [])

-- the index, and the number of the obligation
unfoldable pub found_line : ℕ → ℕ → List ℕ
found_line index rule = concat (codes "found " ∷ numeral 10 1 index ∷ codes " O" ∷ numeral 10 1 rule ∷ codes "\n" ∷ [])

-- ---- the answers

pub record AnswersNone (v : Variant) (terms : List Term) (seed count : ℕ) (a : Answer) : Type 0 where
  pub finds : FindsNone v terms seed count
  pub told : a ≡ done 0 (none_line count)

pub record AnswersFound (v : Variant) (terms : List Term) (seed count : ℕ) (a : Answer) : Type 0 where
  pub index : ℕ
  pub rule : ℕ
  pub finds : FindsFirst v terms seed count index rule
  pub told : a ≡ done 1 (found_line index rule)

abbrev pub SampleAnswers : List ℕ → Variant → List Term → ℕ → ℕ → Answer → Type 0
SampleAnswers name v terms seed count a = AnswersNone v terms seed count a ⊎ (AnswersFound v terms seed count a ⊎ RefusesControl name pipe_rows terms a)
