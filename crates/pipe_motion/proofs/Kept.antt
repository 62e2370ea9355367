-- Stage flows, flows and register controls are the same in a later net.
use Rattle.std.proofs.Common.{◌≡◌, ℕ, ◌≤◌, Bool, List, length, refl, ◌∙◌, arith}
use Rattle.nets.specs.Nets.{Gates, ExtendsNet}
use Rattle.pipe_motion.specs.declared.flow_gates.StageFlowGates.{StageFlowGates}
use Rattle.pipe_motion.specs.declared.flow_gates.FlowGates.{FlowGates}
use Rattle.pipe_motion.specs.declared.flow_gates.RegisterControlGates.{RegisterControlGates}
use Rattle.pipe_motion.specs.declared.flow_gates.RegisterControlsGates.{RegisterControlsGates}
use Rattle.pipe_motion.specs.Flow.{StageFlow, Flow, RegisterControl, RegisterControls, moved_stage, path_is_kept, next_is_right, moved_flow}
use Rattle.pipe_motion.specs.Gates.{stage_flow_at, flow_at, register_control_at, register_controls_at, HasStageFlow, HasFlow, HasRegisterControl, HasRegisterControls, IsStageFlow, IsFlow}

pub stage_flow_kept : {old new : Gates} → ExtendsNet old new → (s : StageFlowGates) (w : List Bool) → HasStageFlow (length old.gates) s → stage_flow_at new w s ≡ stage_flow_at old w s
stage_flow_kept b s w h = rw (b.same s.good w h.good, b.same s.wrong w h.wrong, b.same s.stops w h.stops, b.same s.ret w h.ret, b.same s.missed w h.missed) refl

pub control_kept : {old new : Gates} → ExtendsNet old new → (k : RegisterControlGates) (w : List Bool) → HasRegisterControl (length old.gates) k → register_control_at new w k ≡ register_control_at old w k
control_kept b k w h = rw (b.same k.stall w h.stall, b.same k.bubble w h.bubble) refl

pub flow_kept : {old new : Gates} → ExtendsNet old new → (v : FlowGates) (w : List Bool) → HasFlow (length old.gates) v → flow_at new w v ≡ flow_at old w v
flow_kept b v w h = rw (stage_flow_kept b v.d w h.d, stage_flow_kept b v.e w h.e, stage_flow_kept b v.m w h.m, stage_flow_kept b v.w w h.w) refl

pub controls_kept : {old new : Gates} → ExtendsNet old new → (k : RegisterControlsGates) (w : List Bool) → HasRegisterControls (length old.gates) k → register_controls_at new w k ≡ register_controls_at old w k
controls_kept b k w h = rw (control_kept b k.f w h.f, control_kept b k.d w h.d, control_kept b k.e w h.e, control_kept b k.m w h.m, control_kept b k.w w h.w) refl

-- gates of a net are also gates of a later net
pub stage_flow_stays : {n m : ℕ} → n ≤ m → (s : StageFlowGates) → HasStageFlow n s → HasStageFlow m s
stage_flow_stays le s h = record { good = omega (arith, le, h.good); wrong = omega (arith, le, h.wrong); stops = omega (arith, le, h.stops); ret = omega (arith, le, h.ret); missed = omega (arith, le, h.missed) }

pub flow_stays : {n m : ℕ} → n ≤ m → (v : FlowGates) → HasFlow n v → HasFlow m v
flow_stays le v h = record { d = stage_flow_stays le v.d h.d; e = stage_flow_stays le v.e h.e; m = stage_flow_stays le v.m h.m; w = stage_flow_stays le v.w h.w }

pub control_stays : {n m : ℕ} → n ≤ m → (k : RegisterControlGates) → HasRegisterControl n k → HasRegisterControl m k
control_stays le k h = record { stall = omega (arith, le, h.stall); bubble = omega (arith, le, h.bubble) }

pub controls_stay : {n m : ℕ} → n ≤ m → (k : RegisterControlsGates) → HasRegisterControls n k → HasRegisterControls m k
controls_stay le k h = record { f = control_stays le k.f h.f; d = control_stays le k.d h.d; e = control_stays le k.e h.e; m = control_stays le k.m h.m; w = control_stays le k.w h.w }

-- so they have the same meaning in a later net
pub is_stage_flow_kept : {old new : Gates} {s : StageFlowGates} {f : List Bool → StageFlow} → ExtendsNet old new → IsStageFlow old s f → IsStageFlow new s f
is_stage_flow_kept {old} {new} {s} b h = record { within = stage_flow_stays b.more s h.within; is = λ w. stage_flow_kept b s w h.within ∙ h.is w }

pub is_flow_kept : {old new : Gates} {v : FlowGates} {f : List Bool → Flow} → ExtendsNet old new → IsFlow old v f → IsFlow new v f
is_flow_kept {old} {new} {v} b h = record { within = flow_stays b.more v h.within; is = λ w. flow_kept b v w h.within ∙ h.is w }

pub moved_by : (k k' : RegisterControl) (o o' l l' : StageFlow) → k ≡ k' → o ≡ o' → l ≡ l' → moved_stage k o l ≡ moved_stage k' o' l'
moved_by k k' o o' l l' e f g = rw (e, f, g) refl

pub kept_by : (k k' : RegisterControls) (g g' n n' l l' : Bool) → k ≡ k' → g ≡ g' → n ≡ n' → l ≡ l' → path_is_kept k g n l ≡ path_is_kept k' g' n' l'
kept_by k k' g g' n n' l l' e f h i = rw (e, f, h, i) refl

abbrev pub flow_with : StageFlow → StageFlow → StageFlow → StageFlow → Flow
flow_with d e m w = record { d = d; e = e; m = m; w = w }

pub flow_by : (a a' b b' c c' d d' : StageFlow) → a ≡ a' → b ≡ b' → c ≡ c' → d ≡ d' → flow_with a b c d ≡ flow_with a' b' c' d'
flow_by a a' b b' c c' d d' e f g h = rw (e, f, g, h) refl

pub next_by : (je rm : Bool) (k k' : RegisterControls) (g g' : Bool) (v v' n n' : Flow) → k ≡ k' → g ≡ g' → v ≡ v' → n ≡ n' → next_is_right je rm k g v n ≡ next_is_right je rm k' g' v' n'
next_by je rm k k' g g' v v' n n' a b c d = rw (a, b, c, d) refl

pub moved_flow_by : (k k' : RegisterControls) (f f' : StageFlow) (v v' : Flow) → k ≡ k' → f ≡ f' → v ≡ v' → moved_flow k f v ≡ moved_flow k' f' v'
moved_flow_by k k' f f' v v' a b c = rw (a, b, c) refl
