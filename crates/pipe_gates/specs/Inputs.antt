-- When the gates of an obligation can be made, and a definition at what they are made from.
use Rattle.std.specs.Prelude.{ℕ, ◌≤◌, Bool, List, length}
use Rattle.y86_base.specs.declared.parts.Variant.{Variant}
use Rattle.nets.specs.Nets.{Gates}
use Rattle.ctl_atoms.specs.declared.leaf.Leaf.{Leaf}
use Rattle.ctl_atoms.specs.Leaves.{Assignment}
use Rattle.ctl_picks.specs.Picks.{Covers, IsInside}
use Rattle.dp_signals.specs.PipeTable.{pipe_rows}
use Rattle.pipe_fields.specs.Layout.{Fields, bit_count, fields_of}
use Rattle.pipe_motion.specs.declared.settings.Settings.{Settings}
use Rattle.pipe_motion.specs.Flow.{Flow, RegisterControls}
use Rattle.pipe_motion.specs.Gates.{HasFlow, flow_at}
use Rattle.pipe_obligations.specs.Obligations.{register_controls_of}
use Rattle.pipe_gates.specs.declared.inputs.RuleInputs.{RuleInputs}

-- the net has the variables of the fields, and the gates that are given
pub record HasInputs (net : Gates) (inputs : RuleInputs) : Type 0 where
  pub inside : IsInside net inputs.controls.now
  pub vars : bit_count ≤ net.vars
  pub flow : HasFlow (length net.gates) inputs.flow.now

-- and the names of PIPE have control values
pub record IsRuleReady (net : Gates) (inputs : RuleInputs) : Type 0 where
  pub has : HasInputs net inputs
  pub known : Covers pipe_rows inputs.controls.now

-- a definition of the obligations at a variant, settings, fields, flow, stall and bubble signals and control values
abbrev pub at_inputs : {A : Type 0} → (Variant → Settings → Fields → Flow → RegisterControls → Assignment → (ℕ → Leaf) → A) → Gates → RuleInputs → List Bool → Assignment → (ℕ → Leaf) → A
at_inputs f net inputs = λ w α cv. f inputs.variant inputs.settings.now (fields_of w) (flow_at net w inputs.flow.now) (register_controls_of α cv) α cv
