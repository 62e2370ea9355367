-- Verdicts on HCL files for PIPE.
use Rattle.std.specs.Prelude.{◌≡◌, ℕ, ◌<◌, Bool, true, false, List, length, get_or}
use Rattle.y86_base.specs.declared.parts.Variant.{Variant}
use Rattle.y86_isa.specs.Run.{IsImage}
use Rattle.yis_pure_runs.specs.Near.{NearPure}
use Rattle.nets.specs.Nets.{Gates}
use Rattle.hcl_types.specs.declared.term.Term.{Term}
use Rattle.dp_signals.specs.PipeTable.{pipe_rows}
use Rattle.ctl_atoms.specs.Atoms.{AreAtoms}
use Rattle.ctl_atoms.specs.declared.leaf.Atom.{Atom}
use Rattle.pipe_motion.specs.declared.settings.Settings.{Settings}
use Rattle.pipe_refinement.specs.Refines.{Refines}
use Rattle.hazard_rules.specs.Parts.{AreRules}
use Rattle.ctl_rules.specs.declared.rules.Rules.{Rules}
use Rattle.pipe_obligations.specs.FileSettings.{Holds, IsLeastFalse, AreFileSettings, PipeControls}
use Rattle.ctl_verdicts.specs.ObligationSet.{IsFault}
use Rattle.ctl_verdicts.specs.declared.fault.CheckFault.{CheckFault}
use Rattle.control_check.specs.declared.verdict.Verdict.{Verdict}
use Rattle.control_check.specs.declared.verdict.Verdict.TheVariants.{Yes, No}

-- seven gates are gates of the net
abbrev pub HasSevenGates : Gates → List ℕ → Type 0
HasSevenGates n gates = (i : ℕ) → i < 7 → get_or gates i 0 < length n.gates

-- the file's settings, with its atoms; a prediction for each of seven ifuns
pub record AreSettings (v : Variant) (terms : List Term) (s : Settings) : Type 0 where
  pub atoms : List Atom
  pub are : AreAtoms pipe_rows terms atoms
  pub forward : length s.pt ≡ 7
  pub backward : length s.pb ≡ 7
  pub set : AreFileSettings v atoms (PipeControls terms) s

-- the 27 obligations of a file at its settings, as gates
pub record AreFileRules (v : Variant) (terms : List Term) (r : Rules) : Type 0 where
  pub settings : Settings
  pub are_settings : AreSettings v terms settings
  pub are_rules : AreRules v terms settings r.net r.list
  pub variant : r.variant ≡ v

-- Yes: every obligation holds at every valuation, at the file's own settings. No: one doesn't. The verdict has the
-- first such obligation with its least valuation, and the design's atoms. The design is then accepted at no settings:
-- a file has only its own.
pub record AcceptsPipe (v : Variant) (terms : List Term) (s : Settings) : Type 0 where
  pub settings : AreSettings v terms s
  pub holds : Holds v settings.atoms (PipeControls terms) s

pub record RejectsPipe (v : Variant) (terms : List Term) (rule : ℕ) (w : List Bool) : Type 0 where
  pub found : Settings
  pub settings : AreSettings v terms found
  pub least : IsLeastFalse v settings.atoms (PipeControls terms) found rule w
  pub refused : (s : Settings) → AcceptsPipe v terms s → ⊥

abbrev pub IsPipeVerdict : Variant → List Term → Verdict → Type 0
IsPipeVerdict v terms (Yes s) = AcceptsPipe v terms s
IsPipeVerdict v terms (No rule valuation atoms) = RejectsPipe v terms rule valuation.bits × AreAtoms pipe_rows terms atoms

abbrev pub is_yes : Verdict → Bool
is_yes (Yes settings) = true
is_yes (No rule valuation atoms) = false

abbrev pub IsPipeFault : List Term → CheckFault → Type 0
IsPipeFault terms f = IsFault pipe_rows terms f

-- the pipeline refines the run of instructions: after any number of cycles on any image whose instructions fetch no
-- byte that one of the three before them stored
abbrev pub RefinesPipe : Variant → List Term → Type 0
RefinesPipe v terms = (image : List ℕ) (k : ℕ) → IsImage image → NearPure v image k → Refines v terms image k
