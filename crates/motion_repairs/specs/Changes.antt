-- Changes of one of the ten stall and bubble signals, and which of them meet all obligations on motion.
use Rattle.std.specs.Prelude.{ℕ, Bool, not, ◌&&◌, ◌==◌, if◌then◌else◌, List, [], ◌∷◌, filter, slice_set}
use Rattle.y86_base.specs.declared.parts.Variant.{Variant}
use Rattle.ctl_atoms.specs.declared.leaf.Leaf.{Leaf}
use Rattle.ctl_atoms.specs.declared.leaf.Leaf.TheVariants.{Name}
use Rattle.ctl_atoms.specs.Leaves.{Assignment}
use Rattle.control_values.specs.Given.{at}
use Rattle.pipe_fields.specs.Layout.{Fields}
use Rattle.pipe_motion.specs.Flow.{Flow, RegisterControl, RegisterControls}
use Rattle.pipe_motion.specs.declared.settings.Settings.{Settings}
use Rattle.pipe_obligations.specs.Obligations.{o10, o11, o23, o24, o25, o26, o27}
use Rattle.dp_signals.specs.PipeNames as signal

-- a signal's truth, inverted if it has this name
abbrev pub inverted : ℕ → ℕ → Bool → Bool
inverted name own b = if name == own then not b else b

abbrev pub control_inverted : ℕ → ℕ → ℕ → RegisterControl → RegisterControl
control_inverted name stall bubble k = record { stall = inverted name stall k.stall; bubble = inverted name bubble k.bubble }

abbrev pub with_inverted : ℕ → RegisterControls → RegisterControls
with_inverted name k = record {
  f = control_inverted name signal.F_stall signal.F_bubble k.f;
  d = control_inverted name signal.D_stall signal.D_bubble k.d;
  e = control_inverted name signal.E_stall signal.E_bubble k.e;
  m = control_inverted name signal.M_stall signal.M_bubble k.m;
  w = control_inverted name signal.W_stall signal.W_bubble k.w;
}

-- the obligations that depend on the stall and bubble signals
abbrev pub meets_motion : Variant → Settings → Fields → Flow → RegisterControls → Assignment → (ℕ → Leaf) → Bool
meets_motion v s c y mv α cv =
    o10 v s c y mv α cv
    && (o11 v s c y mv α cv
    && (o23 v s c y mv α cv
    && (o24 v s c y mv α cv
    && (o25 v s c y mv α cv
    && (o26 v s c y mv α cv
    && o27 v s c y mv α cv)))))

abbrev pub stall_bubble_signals : List ℕ
stall_bubble_signals =
    signal.F_stall ∷ signal.F_bubble ∷ signal.D_stall ∷ signal.D_bubble ∷ signal.E_stall ∷ signal.E_bubble ∷ signal.M_stall ∷ signal.M_bubble ∷ signal.W_stall ∷ signal.W_bubble ∷ []

-- the names that f_pc may pick
abbrev pub pc_sources : List ℕ
pc_sources = signal.F_predPC ∷ signal.E_valC ∷ signal.E_valA ∷ signal.M_valE ∷ signal.M_valA ∷ signal.m_valM ∷ signal.W_valM ∷ []

-- the control values, with this name picked by f_pc
abbrev pub with_pc : ℕ → List Leaf → List Leaf
with_pc source leaves = slice_set leaves signal.f_pc (Name source)

-- whether they are met if f_pc picks this name
unfoldable pub is_pc_repair : Variant → Settings → Fields → Flow → RegisterControls → Assignment → List Leaf → ℕ → Bool
is_pc_repair v s c y mv α leaves source = meets_motion v s c y mv α (at (with_pc source leaves))

-- the names that each, picked by f_pc, meet them all
unfoldable pub pc_repairs : Variant → Settings → Fields → Flow → RegisterControls → Assignment → List Leaf → List ℕ
pc_repairs v s c y mv α leaves = filter (is_pc_repair v s c y mv α leaves) pc_sources

-- whether they are met with this signal inverted
abbrev pub is_signal_repair : Variant → Settings → Fields → Flow → RegisterControls → Assignment → (ℕ → Leaf) → ℕ → Bool
is_signal_repair v s c y mv α cv name = meets_motion v s c y (with_inverted name mv) α cv

-- the signals that each, inverted alone, meet them all
unfoldable pub signal_repairs : Variant → Settings → Fields → Flow → RegisterControls → Assignment → (ℕ → Leaf) → List ℕ
signal_repairs v s c y mv α cv = filter (is_signal_repair v s c y mv α cv) stall_bubble_signals
