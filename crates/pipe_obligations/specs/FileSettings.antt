-- What the settings of a file mean, when a file meets the obligations at settings, and which obligation is false at a
-- valuation.
use Rattle.std.specs.Prelude.{ℕ, ◌+◌, ◌≡◌, ◌≤◌, ◌<◌, Bool, true, false, not, ◌&&◌, ◌||◌, ◌==◌, List, get_or, length}
use Rattle.y86_base.specs.declared.parts.Variant.{Variant}
use Rattle.y86_isa.specs.Table.{row, no_register}
use Rattle.y86_isa.specs.RowTests.{stores_val_a}
use Rattle.nets.specs.Nets.{agree}
use Rattle.hcl_types.specs.declared.term.Term.{Term}
use Rattle.ctl_atoms.specs.declared.leaf.Leaf.{Leaf}
use Rattle.ctl_atoms.specs.declared.leaf.Leaf.TheVariants.{Name}
use Rattle.ctl_atoms.specs.declared.leaf.Atom.{Atom}
use Rattle.ctl_atoms.specs.Leaves.{Assignment, AtomsAre}
use Rattle.ctl_equations.specs.Controls.{AreControls}
use Rattle.y86_base.specs.Words.{set}
use Rattle.ctl_rules.specs.ColumnDemands.{picks_leaf, is_number}
use Rattle.pipe_fields.specs.Layout.{Fields, InRange, bit_count, fields_of, number_of}
use Rattle.pipe_fields.specs.Allowed.{allowed}
use Rattle.pipe_motion.specs.Flow.{Flow, RegisterControls, leaves}
use Rattle.pipe_motion.specs.declared.settings.Settings.{Settings}
use Rattle.pipe_obligations.specs.StageFlows.{fetched_jump, back_matches_in_f, flow_of, legal, is_stopping}
use Rattle.pipe_obligations.specs.Obligations.{register_controls_of, right_after_e, target_in_alu}
use Rattle.pipe_obligations.specs.Rules.{obligation, rule_count}
use Rattle.dp_signals.specs.PipeNames as signal
use Rattle.dp_signals.specs.PipeTable.{pipe_rows}

-- the control values of a design for PIPE, at the fields of a valuation and truths of comparisons
abbrev pub PipeControls : List Term → Fields → Assignment → (ℕ → Leaf) → Type 0
PipeControls terms c α cv = AreControls pipe_rows terms (number_of c) α cv

-- a truth decides a statement, both ways
pub record Decides (b : Bool) (P : Type 0) : Type 0 where
  pub yes : b ≡ true → P
  pub no : b ≡ false → P → ⊥

-- a truth of a valuation and its control values
abbrev pub ValuationTruth : Type 0
ValuationTruth = Fields → Assignment → (ℕ → Leaf) → Bool

-- ---- the truths that decide the settings

-- a fetched jump with this ifun, which goes back or not, is predicted as taken
unfoldable pub picks_target : Variant → List Atom → ℕ → Bool → ValuationTruth
picks_target v atoms ifun back c α cv =
    not (allowed v c && (fetched_jump v c && (c.f.ifun == ifun && (agree back (set c.f.back) && back_matches_in_f v atoms c α))))
    || picks_leaf cv signal.f_predPC (Name signal.f_valC)

-- a jump carries its target through the ALU, in every valuation
unfoldable pub alu_passes_target : Variant → Settings → ValuationTruth
alu_passes_target v s c α cv = not (allowed v c) || target_in_alu v s c (flow_of v s c) (register_controls_of α cv) α cv

-- the settings with every early fetch and every late word allowed
abbrev pub permissive : Settings → Settings
permissive s = record { pt = s.pt; pb = s.pb; tv = s.tv; lf = true; je = true; rm = true }

-- a legal valuation of a cycle that doesn't stop, if every early fetch and every late word is allowed
unfoldable pub may_witness : Variant → Settings → List Atom → Fields → Assignment → Bool
may_witness v s atoms c α = allowed v c && (legal v (permissive s) atoms c α && not (is_stopping c))

-- a good store leaves D while E loads its source A
abbrev pub leaves_past_load : Variant → Fields → Flow → RegisterControls → (ℕ → Leaf) → Bool
leaves_past_load v c y mv cv =
    stores_val_a (row v c.d.icode).memory
    && (y.e.good
    && (not (c.e.dst_m == no_register)
    && (is_number cv signal.d_srcA c.e.dst_m
    && leaves mv y)))

unfoldable pub witnesses_lf : Variant → Settings → List Atom → ValuationTruth
witnesses_lf v s atoms c α cv = leaves_past_load v c (flow_of v s c) (register_controls_of α cv) cv && may_witness v s atoms c α

-- E holds a missed jump, and f_pc is where it goes
unfoldable pub witnesses_je : Variant → Settings → List Atom → ValuationTruth
witnesses_je v s atoms c α cv = ((flow_of v s c).e.missed && right_after_e v s c (flow_of v s c) (register_controls_of α cv) α cv) && may_witness v s atoms c α

-- M holds a ret that doesn't stop, and f_pc is where it goes
unfoldable pub witnesses_rm : Variant → Settings → List Atom → ValuationTruth
witnesses_rm v s atoms c α cv =
    (((flow_of v s c).m.ret && not (flow_of v s c).m.stops) && picks_leaf cv signal.f_pc (Name signal.m_valM)) && may_witness v s atoms c α

-- ---- over all valuations of a file with these atoms; `Controls` has the control values at a valuation and truths of
-- atoms
module _ (v : Variant) (atoms : List Atom) (Controls : Fields → Assignment → (ℕ → Leaf) → Type 0) where
  abbrev pub Everywhere : ValuationTruth → Type 0
  Everywhere f = (c : Fields) (α : Assignment) (cv : ℕ → Leaf) → InRange c → Controls c α cv → f c α cv ≡ true

  abbrev pub Somewhere : ValuationTruth → Type 0
  Somewhere f = (c : Fields) × (α : Assignment) × (cv : ℕ → Leaf) × InRange c × Controls c α cv × (f c α cv ≡ true)

  -- these are the file's settings
  pub record AreFileSettings (s : Settings) : Type 0 where
    pub pt : (i : ℕ) → i < 7 → Decides (get_or s.pt i false) (Everywhere (picks_target v atoms i false))
    pub pb : (i : ℕ) → i < 7 → Decides (get_or s.pb i false) (Everywhere (picks_target v atoms i true))
    pub tv : Decides s.tv (Everywhere (alu_passes_target v s))
    pub lf : Decides s.lf (Somewhere (witnesses_lf v s atoms))
    pub je : Decides s.je (Somewhere (witnesses_je v s atoms))
    pub rm : Decides s.rm (Somewhere (witnesses_rm v s atoms))

  -- the obligations hold at these settings, and a jump carries its target where the settings say so
  pub record Holds (s : Settings) : Type 0 where
    pub obligations : (i : ℕ) → 1 ≤ i → i ≤ rule_count → Everywhere (obligation v s atoms i)
    pub target : s.tv ≡ true → Everywhere (alu_passes_target v s)

  -- obligation i is false at the valuation that these bits spell
  pub record IsFalseAt (s : Settings) (i : ℕ) (w : List Bool) : Type 0 where
    pub α : Assignment
    pub cv : ℕ → Leaf
    pub atoms_are : AtomsAre atoms bit_count w α
    pub controls : Controls (fields_of w) α cv
    pub false_there : obligation v s atoms i (fields_of w) α cv ≡ false

  -- the first obligation that is false at some valuation, and the least valuation where it is, in the order of the
  -- variables, 0 before 1
  pub record IsLeastFalse (s : Settings) (i : ℕ) (w : List Bool) : Type 0 where
    pub first : 1 ≤ i
    pub last : i ≤ rule_count
    pub size : length w ≡ bit_count + length atoms
    pub fails : IsFalseAt s i w
    pub least_rule : (j : ℕ) → 1 ≤ j → j < i → (u : List Bool) → length u ≡ bit_count + length atoms → IsFalseAt s j u → ⊥
    pub least_valuation : (u : List Bool) → length u ≡ bit_count + length atoms → IsFalseAt s i u
        → (x : ℕ) → ((z : ℕ) → z < x → get_or w z false ≡ get_or u z false) → get_or u x false ≡ false → get_or w x false ≡ false
