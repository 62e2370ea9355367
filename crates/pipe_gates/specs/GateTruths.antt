-- The truth of a gate, provided that the gates of names encode the control values.
use Rattle.std.specs.Prelude.{ℕ, ◌≡◌, ◌<◌, Bool, List, length}
use Rattle.nets.specs.Nets.{Gates, truth}
use Rattle.ctl_atoms.specs.declared.leaf.Leaf.{Leaf}
use Rattle.ctl_atoms.specs.declared.leaf.Atom.{Atom}
use Rattle.ctl_atoms.specs.Leaves.{Assignment, AtomsAre}
use Rattle.ctl_picks.specs.declared.controls.Entry.{Entry}
use Rattle.ctl_picks.specs.Picks.{EncodesControls}
use Rattle.pipe_fields.specs.Layout.{bit_count, fields_of}
use Rattle.pipe_motion.specs.declared.flow_gates.StageFlowGates.{StageFlowGates}
use Rattle.pipe_motion.specs.Flow.{StageFlow}
use Rattle.pipe_motion.specs.Gates.{HasStageFlow, stage_flow_at}
use Rattle.pipe_obligations.specs.FileSettings.{ValuationTruth}

-- the gate has the truth f of the valuation that the bits spell, for the truths of atoms that they encode
pub record IsTruthGate (net : Gates) (ctl : List Entry) (atoms : List Atom) (g : ℕ) (f : ValuationTruth) : Type 0 where
  pub within : g < length net.gates
  pub is : (w : List Bool) (α : Assignment) (cv : ℕ → Leaf) → AtomsAre atoms bit_count w α → EncodesControls net ctl w α cv
      → truth net g w ≡ f (fields_of w) α cv

-- the gate has the truth f of the bits, for the truths of atoms that they encode
pub record IsAtomGate (net : Gates) (atoms : List Atom) (g : ℕ) (f : List Bool → Assignment → Bool) : Type 0 where
  pub within : g < length net.gates
  pub is : (w : List Bool) (α : Assignment) → AtomsAre atoms bit_count w α → truth net g w ≡ f w α

-- the gates of a stage flow have the truths f if the gates of names encode the control values
pub record AreStageFlowGates (net : Gates) (ctl : List Entry) (s : StageFlowGates) (f : List Bool → Assignment → (ℕ → Leaf) → StageFlow) : Type 0 where
  pub within : HasStageFlow (length net.gates) s
  pub is : (w : List Bool) (α : Assignment) (cv : ℕ → Leaf) → EncodesControls net ctl w α cv → stage_flow_at net w s ≡ f w α cv
