-- What a pipeline register holds, as far as the run of instructions is concerned, and which instruction of the run it is.
use Rattle.std.specs.Prelude.{ℕ, ◌+◌, Bool, true, false, if◌then◌else◌}
use Rattle.dp_signals.specs.PipeCycle.{update_by, moved}
use Rattle.dp_signals.specs.PipeNames as name
use Rattle.y86_base.specs.Words.{set}
use Rattle.pipe_motion.specs.Flow.{RegisterControl, RegisterControls}

-- a bubble, an instruction that was fetched on the wrong path, or one of the run
pub data StageKind : Type 0 where
  Bubbled : StageKind
  Wrong : StageKind
  Good : StageKind

abbrev pub is_good : StageKind → Bool
is_good Bubbled = false
is_good Wrong = false
is_good Good = true

abbrev pub is_wrong : StageKind → Bool
is_wrong Bubbled = false
is_wrong Wrong = true
is_wrong Good = false

abbrev pub kind_is_live : StageKind → Bool
kind_is_live Bubbled = false
kind_is_live Wrong = true
kind_is_live Good = true

-- what a fetch brings
abbrev pub fetched_kind : Bool → StageKind
fetched_kind good = if good then Good else Wrong

-- where the instructions of the run are, and how many have retired
pub record Schedule : Type 0 where
  pub retired : ℕ
  pub d : StageKind
  pub e : StageKind
  pub m : StageKind
  pub w : StageKind

-- the start: four bubbles, and nothing has retired
abbrev pub start_schedule : Schedule
start_schedule = record { retired = 0; d = Bubbled; e = Bubbled; m = Bubbled; w = Bubbled }

abbrev pub count : Bool → ℕ
count true = 1
count false = 0

-- which instruction of the run is in W, M, E and D, and which one is to be fetched
abbrev pub in_w : Schedule → ℕ
in_w c = c.retired

abbrev pub in_m : Schedule → ℕ
in_m c = in_w c + count (is_good c.w)

abbrev pub in_e : Schedule → ℕ
in_e c = in_m c + count (is_good c.m)

abbrev pub in_d : Schedule → ℕ
in_d c = in_e c + count (is_good c.e)

abbrev pub in_f : Schedule → ℕ
in_f c = in_d c + count (is_good c.d)

-- a register after a cycle with these stall and bubble signals
abbrev pub moved_by : {A : Type 0} → RegisterControl → A → A → A → A
moved_by k held bubble loaded = moved (update_by k.stall k.bubble) held bubble loaded

-- the kinds after a cycle
abbrev pub next_schedule : RegisterControls → StageKind → Schedule → Schedule
next_schedule k fetched c = record {
  retired = c.retired + count (is_good c.w);
  d = moved_by k.d c.d Bubbled fetched;
  e = moved_by k.e c.e Bubbled c.d;
  m = moved_by k.m c.m Bubbled c.e;
  w = moved_by k.w c.w Bubbled c.m;
}

-- the stall and bubble signals of the five registers in a cycle
abbrev pub requested_controls : (ℕ → ℕ) → RegisterControls
requested_controls f = record {
  f = record { stall = set (f name.F_stall); bubble = set (f name.F_bubble) };
  d = record { stall = set (f name.D_stall); bubble = set (f name.D_bubble) };
  e = record { stall = set (f name.E_stall); bubble = set (f name.E_bubble) };
  m = record { stall = set (f name.M_stall); bubble = set (f name.M_bubble) };
  w = record { stall = set (f name.W_stall); bubble = set (f name.W_bubble) };
}
