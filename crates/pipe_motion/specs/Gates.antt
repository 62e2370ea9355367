-- Stage flows, flows and register controls as gates of a net: their truths under a valuation.
use Rattle.std.specs.Prelude.{ℕ, ◌<◌, ◌≡◌, Bool, List, length}
use Rattle.nets.specs.Nets.{Gates, truth}
use Rattle.pipe_motion.specs.declared.flow_gates.StageFlowGates.{StageFlowGates}
use Rattle.pipe_motion.specs.declared.flow_gates.FlowGates.{FlowGates}
use Rattle.pipe_motion.specs.declared.flow_gates.RegisterControlGates.{RegisterControlGates}
use Rattle.pipe_motion.specs.declared.flow_gates.RegisterControlsGates.{RegisterControlsGates}
use Rattle.pipe_motion.specs.Flow.{StageFlow, Flow, RegisterControl, RegisterControls}

-- ---- under a valuation
abbrev pub stage_flow_at : Gates → List Bool → StageFlowGates → StageFlow
stage_flow_at n w s = record { good = truth n s.good w; wrong = truth n s.wrong w; stops = truth n s.stops w; ret = truth n s.ret w; missed = truth n s.missed w }

abbrev pub flow_at : Gates → List Bool → FlowGates → Flow
flow_at n w v = record { d = stage_flow_at n w v.d; e = stage_flow_at n w v.e; m = stage_flow_at n w v.m; w = stage_flow_at n w v.w }

abbrev pub register_control_at : Gates → List Bool → RegisterControlGates → RegisterControl
register_control_at n w k = record { stall = truth n k.stall w; bubble = truth n k.bubble w }

abbrev pub register_controls_at : Gates → List Bool → RegisterControlsGates → RegisterControls
register_controls_at n w k = record { f = register_control_at n w k.f; d = register_control_at n w k.d; e = register_control_at n w k.e; m = register_control_at n w k.m; w = register_control_at n w k.w }

-- ---- they are gates of a net with `count` gates
pub record HasStageFlow (count : ℕ) (s : StageFlowGates) : Type 0 where
  pub good : s.good < count
  pub wrong : s.wrong < count
  pub stops : s.stops < count
  pub ret : s.ret < count
  pub missed : s.missed < count

pub record HasFlow (count : ℕ) (v : FlowGates) : Type 0 where
  pub d : HasStageFlow count v.d
  pub e : HasStageFlow count v.e
  pub m : HasStageFlow count v.m
  pub w : HasStageFlow count v.w

pub record HasRegisterControl (count : ℕ) (k : RegisterControlGates) : Type 0 where
  pub stall : k.stall < count
  pub bubble : k.bubble < count

pub record HasRegisterControls (count : ℕ) (k : RegisterControlsGates) : Type 0 where
  pub f : HasRegisterControl count k.f
  pub d : HasRegisterControl count k.d
  pub e : HasRegisterControl count k.e
  pub m : HasRegisterControl count k.m
  pub w : HasRegisterControl count k.w

-- ---- they are gates of the net with these truths
pub record IsStageFlow (n : Gates) (s : StageFlowGates) (f : List Bool → StageFlow) : Type 0 where
  pub within : HasStageFlow (length n.gates) s
  pub is : (w : List Bool) → stage_flow_at n w s ≡ f w

pub record IsFlow (n : Gates) (v : FlowGates) (f : List Bool → Flow) : Type 0 where
  pub within : HasFlow (length n.gates) v
  pub is : (w : List Bool) → flow_at n w v ≡ f w
