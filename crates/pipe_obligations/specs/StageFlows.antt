-- The flow of the stages of a valuation, and which valuations are legal.
use Rattle.std.specs.Prelude.{ℕ, Bool, false, not, ◌&&◌, ◌||◌, ◌==◌, List}
use Rattle.y86_base.specs.declared.parts.Variant.{Variant}
use Rattle.y86_isa.specs.Table.{row, no_register}
use Rattle.y86_isa.specs.RowTests.{stores_val_a, next_is_branch, next_is_val_m}
use Rattle.nets.specs.Nets.{agree}
use Rattle.ctl_atoms.specs.declared.leaf.Leaf.TheVariants.{Name}
use Rattle.ctl_atoms.specs.declared.leaf.Atom.{Atom}
use Rattle.ctl_atoms.specs.declared.leaf.AtomKind.TheVariants.{Lt}
use Rattle.ctl_atoms.specs.Leaves.{Assignment, has_atom}
use Rattle.y86_base.specs.Words.{set}
use Rattle.pipe_fields.specs.Layout.{DecodeLine, ExecuteLine, MemoryLine, WriteLine, Fields}
use Rattle.pipe_motion.specs.Flow.{StageFlow, Flow, flow_legal}
use Rattle.pipe_motion.specs.Predictions.{predicts}
use Rattle.pipe_motion.specs.declared.settings.Settings.{Settings}
use Rattle.dp_signals.specs.PipeNames as signal

-- ---- the states of D, E, M and W

-- by the kind (0 a bubble, 1 good, 2 wrong), and three truths that count for a good instruction
abbrev pub stage_flow_by : ℕ → Bool → Bool → Bool → StageFlow
stage_flow_by kind stops ret missed = record {
  good = kind == 1;
  wrong = kind == 2;
  stops = kind == 1 && stops;
  ret = kind == 1 && ret;
  missed = kind == 1 && missed;
}

-- it stops the machine: its status isn't 1, or it will fault at memory
abbrev pub stops_by : ℕ → ℕ → Bool
stops_by stat fault = not (stat == 1) || set fault

abbrev pub is_ret : Variant → ℕ → Bool
is_ret v icode = next_is_val_m (row v icode).next

-- a jump, also `jmp`, with status 1 (AOK)
abbrev pub is_jump : Variant → ℕ → ℕ → Bool
is_jump v stat icode = stat == 1 && next_is_branch (row v icode).next

-- a mispredicted jump
abbrev pub is_missed : Variant → Settings → ℕ → ℕ → ℕ → ℕ → ℕ → Bool
is_missed v s stat icode ifun taken back = is_jump v stat icode && not (agree (set taken) (predicts s ifun (set back)))

abbrev pub decode_flow : Variant → Settings → DecodeLine → StageFlow
decode_flow v s x = stage_flow_by x.kind (stops_by x.stat x.stops) (is_ret v x.icode) (is_missed v s x.stat x.icode x.ifun x.taken x.back)

abbrev pub execute_flow : Variant → Settings → ExecuteLine → StageFlow
execute_flow v s x = stage_flow_by x.kind (stops_by x.stat x.stops) (is_ret v x.icode) (is_missed v s x.stat x.icode x.ifun x.cnd x.back)

abbrev pub memory_flow : Variant → Settings → MemoryLine → StageFlow
memory_flow v s x = stage_flow_by x.kind (stops_by x.stat x.error) (is_ret v x.icode) (is_missed v s x.stat x.icode x.ifun x.cnd x.back)

-- in W an instruction stops by its status, and no jump counts as missed
abbrev pub write_flow : Variant → WriteLine → StageFlow
write_flow v x = stage_flow_by x.kind (not (x.stat == 1)) (is_ret v x.icode) false

unfoldable pub flow_of : Variant → Settings → Fields → Flow
flow_of v s c = record { d = decode_flow v s c.d; e = execute_flow v s c.e; m = memory_flow v s c.m; w = write_flow v c.w }

-- ---- legal valuations

-- if a good instruction in M loads a register, that is no source of the good one in E; with lf it may be a store's
-- source of the word that it stores
abbrev pub no_load_use_in_e : Variant → Bool → Fields → Flow → Bool
no_load_use_in_e v lf c y =
    not (y.e.good && (y.m.good && not (c.m.dst_m == no_register)))
    || (not (c.m.dst_m == c.e.src_b) && (not (c.m.dst_m == c.e.src_a) || (lf && stores_val_a (row v c.e.icode).memory)))

-- the atom x < y of two names
abbrev pub below : ℕ → ℕ → Atom
below x y = record { kind = Lt; left = Name x; right = Name y }

-- if the stage has a jump, the atom x < y is its back bit, provided that the file has this atom
abbrev pub back_matches : List Atom → Assignment → ℕ → ℕ → Bool → ℕ → Bool
back_matches atoms α x y here back = not (here && has_atom atoms (below x y)) || agree (α Lt (Name x) (Name y)) (set back)

-- a jump is fetched
abbrev pub fetched_jump : Variant → Fields → Bool
fetched_jump v c = not (set c.f.error) && next_is_branch (row v c.f.icode).next

abbrev pub back_matches_in_f : Variant → List Atom → Fields → Assignment → Bool
back_matches_in_f v atoms c α = back_matches atoms α signal.f_valC signal.f_valP (fetched_jump v c) c.f.back

-- in each stage that has a jump's valC and valP, the atom valC < valP is that jump's back bit; with tv also in M
abbrev pub back_matches_all : Variant → Bool → List Atom → Fields → Flow → Assignment → Bool
back_matches_all v tv atoms c y α =
    back_matches_in_f v atoms c α
    && (back_matches atoms α signal.D_valC signal.D_valP (y.d.good && is_jump v c.d.stat c.d.icode) c.d.back
    && (back_matches atoms α signal.E_valC signal.E_valA (y.e.good && is_jump v c.e.stat c.e.icode) c.e.back
    && (not tv || back_matches atoms α signal.M_valE signal.M_valA (y.m.good && is_jump v c.m.stat c.m.icode) c.m.back)))

unfoldable pub legal : Variant → Settings → List Atom → Fields → Assignment → Bool
legal v s atoms c α =
    flow_legal s.je s.rm (flow_of v s c)
    && (no_load_use_in_e v s.lf c (flow_of v s c)
    && back_matches_all v s.tv atoms c (flow_of v s c) α)

-- the cycle stops: the instruction in W is good and its status isn't 1
abbrev pub is_stopping : Fields → Bool
is_stopping c = c.w.kind == 1 && not (c.w.stat == 1)
