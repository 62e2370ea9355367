-- The run of a program under an HCL text for PIPE.
use Rattle.std.specs.Prelude.{ℕ, ◌≡◌, ◌≢◌, ◌⊎◌, Bool, true, false, List, Ok}
use Rattle.cosimulation.specs.Agreement.{FindsNone}
use Rattle.dp_signals.specs.PipeTable.{pipe_rows}
use Rattle.hcl_design.specs.Designs.{HasDesign, IsDesign}
use Rattle.hcl_design.specs.declared.design.NoDesign.TheVariants.{Refused}
use Rattle.hcl_types.specs.Tables.{IsOrderOf}
use Rattle.hcl_types.specs.declared.term.Term.{Term}
use Rattle.run_report.specs.Outcome.{IsOutcome, is_covered, is_same}
use Rattle.run_report.specs.declared.outcome.Outcome.{Outcome}
use Rattle.tell_faults.specs.Faultless.{IsLoadable}
use Rattle.tell_runs.specs.declared.running.NoRun.{NoRun}
use Rattle.tell_runs.specs.declared.running.NoRun.TheVariants.{Design, Object, Empty}
use Rattle.y86_base.specs.declared.parts.Variant.{Variant}
use Rattle.yo_object.specs.ObjectText.{object_of}
use Rattle.yo_object.specs.declared.object.YoWhy.TheVariants.{Memory}

-- The outcome is that of the image of an object text under the design of an HCL text. If the theorem covers the run,
-- nothing differs.
pub record IsRun (v : Variant) (source object : List ℕ) (size limit : ℕ) (o : Outcome) : Type 0 where
  pub terms : List Term
  pub order : List ℕ
  pub image : List ℕ
  pub design : IsDesign pipe_rows source terms
  pub ordered : IsOrderOf pipe_rows terms order
  pub loads : object_of object size ≡ Ok image
  pub outcome : IsOutcome v terms order image limit o
  pub covered : is_covered o.judged o.watched ≡ true → FindsNone o.compared

-- Whether both runs ended within the limit, with the same records and in the same state: that of the machine under the
-- HCL text, and that of the instructions.
pub record RunsEnd (alike : Bool) (v : Variant) (size limit : ℕ) (source object : List ℕ) : Type 0 where
  pub outcome : Outcome
  pub is : IsRun v source object size limit outcome
  pub same : is_same outcome.compared ≡ alike

abbrev pub EndsAlike : Variant → ℕ → ℕ → List ℕ → List ℕ → Type 0
EndsAlike v size limit source object = RunsEnd true v size limit source object

abbrev pub EndsApart : Variant → ℕ → ℕ → List ℕ → List ℕ → Type 0
EndsApart v size limit source object = RunsEnd false v size limit source object

-- There is no run: the HCL text has no design for PIPE, or the object text isn't loadable.
abbrev pub HasNoRun : ℕ → List ℕ → List ℕ → Type 0
HasNoRun size source object = (HasDesign pipe_rows source → ⊥) ⊎ (IsLoadable size object → ⊥)

-- The reason that a call has no run, unless memory ran out.
abbrev pub IsNoRun : ℕ → List ℕ → List ℕ → NoRun → Type 0
IsNoRun size source object (Design why) = why ≡ Refused → HasDesign pipe_rows source → ⊥
IsNoRun size source object (Object fault) = fault.why ≢ Memory → IsLoadable size object → ⊥
IsNoRun size source object Empty = IsLoadable size object → ⊥
