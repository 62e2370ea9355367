-- Accepted and rejected files for PIPE.
use Rattle.std.specs.Prelude.{ℕ, Bool, List}
use Rattle.y86_base.specs.declared.parts.Variant.{Variant}
use Rattle.hcl_types.specs.declared.table.Design.{Design}
use Rattle.hcl_types.specs.declared.term.Term.{Term}
use Rattle.pipe_motion.specs.declared.settings.Settings.{Settings}
use Rattle.control_check.specs.PipeVerdicts.{AcceptsPipe, RefinesPipe, RejectsPipe}

-- a design for an instruction set, and settings
pub record CheckedFile : Type 0 where
  pub variant : Variant
  pub design : Design
  pub settings : Settings

-- the design meets every obligation at these settings, which are its own, and its pipeline refines the run of
-- instructions
pub record IsAccepted (file : CheckedFile) : Type 0 where
  pub accepts : AcceptsPipe file.variant file.design.terms file.settings
  pub refines : RefinesPipe file.variant file.design.terms

-- some obligation is false at some valuation
abbrev pub IsRejected : Variant → List Term → Type 0
IsRejected v terms = (rule : ℕ) × (valuation : List Bool) × RejectsPipe v terms rule valuation
