-- The diagnosis of a valuation at which an obligation of PIPE is false.
use Rattle.std.specs.Prelude.{ℕ, ◌≡◌, ◌<◌, Bool, false, List, map}
use Rattle.y86_base.specs.declared.parts.Variant.{Variant}
use Rattle.hcl_types.specs.declared.term.Term.{Term}
use Rattle.ctl_atoms.specs.declared.leaf.Leaf.{Leaf}
use Rattle.ctl_atoms.specs.declared.leaf.Atom.{Atom}
use Rattle.ctl_atoms.specs.Leaves.{Assignment, AtomsAre}
use Rattle.control_values.specs.Given.{assigned, at}
use Rattle.dp_signals.specs.PipeNames as signal
use Rattle.pipe_fields.specs.Layout.{bit_count, fields_of}
use Rattle.pipe_motion.specs.declared.settings.Settings.{Settings}
use Rattle.pipe_obligations.specs.Obligations.{register_controls_of}
use Rattle.pipe_obligations.specs.Rules.{obligation}
use Rattle.pipe_obligations.specs.FileSettings.{PipeControls}
use Rattle.pipe_obligations.specs.StageFlows.{flow_of}
use Rattle.findings.specs.Findings.{are_right, finding}
use Rattle.pipe_requirements.specs.Requirements.{first_on_motion, requirements, unread}
use Rattle.motion_repairs.specs.Pairs.{repairs_of}
use Rattle.pipe_diagnosis.specs.declared.diagnosis.Diagnosis.{Diagnosis}

-- Obligation i is false at the valuation that the bits spell.
abbrev pub Fails : Variant → List Term → Settings → List Atom → ℕ → List Bool → Type 0
Fails v terms s atoms i w = (α : Assignment) (cv : ℕ → Leaf) → AtomsAre atoms bit_count w α → PipeControls terms (fields_of w) α cv → obligation v s atoms i (fields_of w) α cv ≡ false

-- A right diagnosis. The leaves are the control values at the valuation.
pub record IsDiagnosis (v : Variant) (terms : List Term) (s : Settings) (atoms : List Atom) (i : ℕ) (w : List Bool) (diagnosis : Diagnosis) : Type 0 where
  pub atoms_are : AtomsAre atoms bit_count w (assigned atoms bit_count w)
  pub controls : PipeControls terms (fields_of w) (assigned atoms bit_count w) (at diagnosis.leaves)
  pub false_there : obligation v s atoms i (fields_of w) (assigned atoms bit_count w) (at diagnosis.leaves) ≡ false
  -- a finding for each requirement; an obligation on motion has none
  pub findings : diagnosis.findings
      ≡ map (finding signal.f_pc terms (assigned atoms bit_count w) (at diagnosis.leaves)) (requirements v s (fields_of w) (flow_of v s (fields_of w)) (register_controls_of (assigned atoms bit_count w) (at diagnosis.leaves)) (at diagnosis.leaves) i)
  -- of the requirements of an obligation before those on motion, at least one isn't met
  pub one_wrong : i < first_on_motion → are_right diagnosis.findings ≡ false
  -- the changes that would meet all obligations on motion
  pub repairs : diagnosis.repairs ≡ repairs_of v s (fields_of w) (flow_of v s (fields_of w)) (register_controls_of (assigned atoms bit_count w) (at diagnosis.leaves)) unread diagnosis.leaves
