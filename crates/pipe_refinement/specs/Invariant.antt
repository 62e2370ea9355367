-- Which instruction of the run is in which pipeline register, and which of its words the register holds.
use Rattle.std.specs.Prelude.{◌≡◌, ◌≢◌, ◌⊎◌, ℕ, ◌+◌, ◌<◌, ◌≤◌, Bool, true, false, not, ◌&&◌, ◌||◌, ◌==◌, List, length, if◌then◌else◌}
use Rattle.y86_base.specs.Stat.{stat_number}
use Rattle.y86_base.specs.declared.parts.Variant.{Variant}
use Rattle.y86_isa.specs.declared.columns.Row.{Row}
use Rattle.y86_isa.specs.declared.machine.Rec.{Rec}
use Rattle.y86_isa.specs.declared.work.Work.{Work}
use Rattle.y86_isa.specs.Table.{row, rows}
use Rattle.y86_isa.specs.Machine.{is_aok}
use Rattle.y86_isa.specs.RowTests.{has_operand_a, stores_val_a, next_is_branch, select_a_is_val_p}
use Rattle.y86_isa.specs.Blocks.{fetch_status, register_number}
use Rattle.y86_isa.specs.Run.{records}
use Rattle.yis_run_laws.specs.Instructions.{state_before, work_at, instruction_row, RunReaches, stops_at, ret_at}
use Rattle.hcl_types.specs.Terms.{signed_below}
use Rattle.dp_signals.specs.Values.{bit}
use Rattle.dp_signals.specs.declared.pipe_state.PipeState.{PipeState}
use Rattle.dp_signals.specs.declared.pipe_state.StageD.{StageD}
use Rattle.dp_signals.specs.declared.pipe_state.StageE.{StageE}
use Rattle.dp_signals.specs.declared.pipe_state.StageM.{StageM}
use Rattle.dp_signals.specs.declared.pipe_state.StageW.{StageW}
use Rattle.dp_signals.specs.declared.pipe_state.Trail.{Trail}
use Rattle.pipe_motion.specs.Flow.{StageFlow, Flow, entering_w, flow_legal, path}
use Rattle.pipe_refinement.specs.Kinds.{StageKind, Bubbled, is_good, is_wrong, kind_is_live, Schedule, in_w, in_m, in_e, in_d, in_f}
use Rattle.pipe_motion.specs.Predictions.{predicts}
use Rattle.pipe_motion.specs.declared.settings.Settings.{Settings}
use Rattle.pipe_refinement.specs.Facts.{store_word_comes_late, needs_select_a}

-- an instruction set, the settings of a design, and an image
pub record RunContext : Type 0 where
  pub v : Variant
  pub s : Settings
  pub image : List ℕ

-- ---- the instructions of the run as stage flows
-- instruction i is predicted as a taken jump; it is a mispredicted jump
abbrev pub predicted_at : RunContext → ℕ → Bool
predicted_at x i =
    predicts x.s (work_at x.v x.image i).ifun (signed_below (work_at x.v x.image i).val_c (work_at x.v x.image i).val_p)

abbrev pub differ : Bool → Bool → Bool
differ a b = if a then not b else b

abbrev pub missed_at : RunContext → ℕ → Bool
missed_at x i =
    is_aok (work_at x.v x.image i).fetch_stat
    && (next_is_branch (instruction_row x.v x.image i).next && differ (work_at x.v x.image i).cnd (predicted_at x i))

-- the state of a register of this kind; if it holds an instruction of the run, that is instruction i
abbrev pub run_stage_flow : RunContext → StageKind → ℕ → StageFlow
run_stage_flow x k i = record {
  good = is_good k;
  wrong = is_wrong k;
  stops = is_good k && stops_at x.v x.image i;
  ret = is_good k && ret_at x.v x.image i;
  missed = is_good k && missed_at x i;
}

unfoldable pub run_flow : RunContext → Schedule → Flow
run_flow x c = record {
  d = run_stage_flow x c.d (in_d c);
  e = run_stage_flow x c.e (in_e c);
  m = run_stage_flow x c.m (in_m c);
  w = entering_w (run_stage_flow x c.w (in_w c));
}

-- ---- the words of instruction i in a register
pub record TrailOf (x : RunContext) (i : ℕ) (a : Trail) : Type 0 where
  pub pc : a.addr ≡ (state_before x.v x.image i).pc
  pub ifun : a.ifun ≡ (work_at x.v x.image i).ifun

pub record HoldsInD (x : RunContext) (i : ℕ) (d : StageD) : Type 0 where
  pub trail : TrailOf x i d.trail
  pub stat : d.stat ≡ stat_number (work_at x.v x.image i).fetch_stat
  pub icode : d.icode ≡ (work_at x.v x.image i).icode
  pub ifun : d.ifun ≡ (work_at x.v x.image i).ifun
  pub r_a : d.r_a ≡ (work_at x.v x.image i).r_a
  pub r_b : d.r_b ≡ (work_at x.v x.image i).r_b
  pub val_c : d.val_c ≡ (work_at x.v x.image i).val_c
  pub val_p : d.val_p ≡ (work_at x.v x.image i).val_p

-- valA and valB count if there is a source; valA may still be on its way (free)
pub record HoldsInE (x : RunContext) (i : ℕ) (free : Bool) (e : StageE) : Type 0 where
  pub trail : TrailOf x i e.trail
  pub stat : e.stat ≡ stat_number (work_at x.v x.image i).fetch_stat
  pub icode : e.icode ≡ (work_at x.v x.image i).icode
  pub ifun : e.ifun ≡ (work_at x.v x.image i).ifun
  pub val_c : e.val_c ≡ (work_at x.v x.image i).val_c
  pub src_a : e.src_a ≡ (work_at x.v x.image i).src_a
  pub src_b : e.src_b ≡ (work_at x.v x.image i).src_b
  pub dst_e : e.dst_e ≡ (work_at x.v x.image i).raw_dst_e
  pub dst_m : e.dst_m ≡ (work_at x.v x.image i).dst_m
  pub val_a : (work_at x.v x.image i).src_a ≢ 15 → free ≡ false → e.val_a ≡ (work_at x.v x.image i).val_a
  pub val_b : (work_at x.v x.image i).src_b ≢ 15 → e.val_b ≡ (work_at x.v x.image i).val_b
  pub val_p : select_a_is_val_p (instruction_row x.v x.image i) ≡ true → e.val_a ≡ (work_at x.v x.image i).val_p

-- M's valA for an instruction: its valA, or for jXX and call its valP
abbrev pub select_a : Row → Work → ℕ
select_a r w = if select_a_is_val_p r then w.val_p else w.val_a

pub record HoldsInM (x : RunContext) (i : ℕ) (m : StageM) : Type 0 where
  pub trail : TrailOf x i m.trail
  pub flags : m.trail.flags ≡ (state_before x.v x.image (i + 1)).flags
  pub stat : m.stat ≡ stat_number (work_at x.v x.image i).fetch_stat
  pub icode : m.icode ≡ (work_at x.v x.image i).icode
  pub ifun : m.ifun ≡ (work_at x.v x.image i).ifun
  pub cnd : m.cnd ≡ bit (work_at x.v x.image i).cnd
  pub dst_e : m.dst_e ≡ (work_at x.v x.image i).dst_e
  pub dst_m : m.dst_m ≡ (work_at x.v x.image i).dst_m
  pub val_e : has_operand_a (instruction_row x.v x.image i).alu_a ≡ true → m.val_e ≡ (work_at x.v x.image i).val_e
  pub val_a : needs_select_a (instruction_row x.v x.image i) ≡ true → m.val_a ≡ select_a (instruction_row x.v x.image i) (work_at x.v x.image i)
  pub target : x.s.tv ≡ true → next_is_branch (instruction_row x.v x.image i).next ≡ true → m.val_e ≡ (work_at x.v x.image i).val_c

pub record HoldsInW (x : RunContext) (i : ℕ) (w : StageW) : Type 0 where
  pub trail : TrailOf x i w.trail
  pub stat : w.stat ≡ stat_number (work_at x.v x.image i).stat
  pub icode : w.icode ≡ (work_at x.v x.image i).icode
  pub flags : w.trail.flags ≡ (state_before x.v x.image (i + 1)).flags
  pub store : w.trail.store ≡ (work_at x.v x.image i).store
  pub dst_e : w.dst_e ≡ (work_at x.v x.image i).dst_e
  pub dst_m : w.dst_m ≡ (work_at x.v x.image i).dst_m
  pub val_e : has_operand_a (instruction_row x.v x.image i).alu_a ≡ true → w.val_e ≡ (work_at x.v x.image i).val_e
  pub val_m : w.val_m ≡ (work_at x.v x.image i).val_m

-- ---- bubbles
pub record IsBubbleD (d : StageD) : Type 0 where
  pub stat : d.stat ≡ 0
  pub icode : d.icode ≡ 1
  pub ifun : d.ifun ≡ 0
  pub r_a : d.r_a ≡ 15
  pub r_b : d.r_b ≡ 15

pub record IsBubbleE (e : StageE) : Type 0 where
  pub stat : e.stat ≡ 0
  pub icode : e.icode ≡ 1
  pub ifun : e.ifun ≡ 0
  pub dst_e : e.dst_e ≡ 15
  pub dst_m : e.dst_m ≡ 15
  pub src_a : e.src_a ≡ 15
  pub src_b : e.src_b ≡ 15

pub record IsBubbleM (m : StageM) : Type 0 where
  pub stat : m.stat ≡ 0
  pub icode : m.icode ≡ 1
  pub ifun : m.ifun ≡ 0
  pub dst_e : m.dst_e ≡ 15
  pub dst_m : m.dst_m ≡ 15
  pub cnd : m.cnd ≤ 1

pub record IsBubbleW (w : StageW) : Type 0 where
  pub stat : w.stat ≡ 0
  pub icode : w.icode ≡ 1
  pub dst_e : w.dst_e ≡ 15
  pub dst_m : w.dst_m ≡ 15

-- ---- wrong instructions: their numbers come from some bytes, decoded by their rows
pub record AllowedD (v : Variant) (d : StageD) : Type 0 where
  pub error : Bool
  pub stat : d.stat ≡ stat_number (fetch_status error d.icode)
  pub outside : error ≡ true → (d.icode ≡ 1) × (d.ifun ≡ 0)
  pub known : (d.icode < length (rows v)) ⊎ (d.icode ≡ 15)
  pub ifun : d.ifun ≤ (row v d.icode).ifun_top
  pub r_a : d.r_a ≤ 15
  pub r_b : d.r_b ≤ 15
  pub used_a : (row v d.icode).uses_a ≡ true → d.r_a < 15
  pub used_b : (row v d.icode).uses_b ≡ true → d.r_b < 15
  pub none_a : (row v d.icode).has_byte ≡ false → d.r_a ≡ 15
  pub none_b : (row v d.icode).has_byte ≡ false → d.r_b ≡ 15

pub record AllowedE (v : Variant) (e : StageE) : Type 0 where
  pub from : StageD
  pub allowed : AllowedD v from
  pub stat : e.stat ≡ from.stat
  pub icode : e.icode ≡ from.icode
  pub ifun : e.ifun ≡ from.ifun
  pub src_a : e.src_a ≡ register_number (row v from.icode).src_a from.r_a from.r_b
  pub src_b : e.src_b ≡ register_number (row v from.icode).src_b from.r_a from.r_b
  pub dst_e : e.dst_e ≡ register_number (row v from.icode).dst_e from.r_a from.r_b
  pub dst_m : e.dst_m ≡ register_number (row v from.icode).dst_m from.r_a from.r_b

-- no good instruction in E waits for the word of a load in M, except a store that takes its word late
abbrev pub no_load_awaited : Settings → Variant → PipeState → Schedule → Bool
no_load_awaited s v p c =
    not (is_good c.e && (is_good c.m && not (p.m.dst_m == 15)))
    || (not (p.m.dst_m == p.e.src_b) && (not (p.m.dst_m == p.e.src_a) || (s.lf && stores_val_a (row v p.e.icode).memory)))

-- ---- the state after t cycles that didn't stop, with the records so far
pub record CouplingInvariant (x : RunContext) (t : ℕ) (c : Schedule) (p : PipeState) (rs : List Rec) : Type 0 where
  pub live_d : p.d.live ≡ kind_is_live c.d
  pub live_e : p.e.live ≡ kind_is_live c.e
  pub live_m : p.m.live ≡ kind_is_live c.m
  pub live_w : p.w.live ≡ kind_is_live c.w
  pub right_m : is_wrong c.m ≡ false
  pub right_w : is_wrong c.w ≡ false
  pub live : (i : ℕ) → i < in_f c → RunReaches x.v x.image i
  pub last_live : RunReaches x.v x.image c.retired
  pub few : in_f c ≤ t
  pub empty_d : c.d ≡ Bubbled → IsBubbleD p.d
  pub empty_e : c.e ≡ Bubbled → IsBubbleE p.e
  pub empty_m : c.m ≡ Bubbled → IsBubbleM p.m
  pub empty_w : c.w ≡ Bubbled → IsBubbleW p.w
  pub wrong_d : is_wrong c.d ≡ true → AllowedD x.v p.d
  pub wrong_e : is_wrong c.e ≡ true → AllowedE x.v p.e
  pub good_d : is_good c.d ≡ true → HoldsInD x (in_d c) p.d
  pub good_e : is_good c.e ≡ true → HoldsInE x (in_e c) (store_word_comes_late x.s x.v p (is_good c.m)) p.e
  pub good_m : is_good c.m ≡ true → HoldsInM x (in_m c) p.m
  pub good_w : is_good c.w ≡ true → HoldsInW x (in_w c) p.w
  pub regs : p.regs ≡ (state_before x.v x.image c.retired).regs
  pub mem : p.mem ≡ (state_before x.v x.image (in_m c)).mem
  pub flags : p.flags ≡ (state_before x.v x.image (in_e c)).flags
  pub legal : flow_legal x.s.je x.s.rm (run_flow x c) ≡ true
  pub awaited : no_load_awaited x.s x.v p c ≡ true
  pub path_holds : path (run_flow x c) ≡ true → p.pred_pc ≡ (state_before x.v x.image (in_f c)).pc
  pub recs : rs ≡ records x.v x.image c.retired
  pub counted : length rs ≡ c.retired
