-- What the obligations say about the values of a cycle, stage by stage (CS:APP 3e, section 4.5).
use Rattle.std.specs.Prelude.{◌≡◌, ◌≢◌, ℕ, Bool, true, false, not, ◌&&◌, ◌||◌, ◌⊎◌, ◌==◌, Option, Some, None, IfSome, if◌then◌else◌}
use Rattle.y86_base.specs.Stat.{stat_number}
use Rattle.y86_base.specs.declared.parts.Variant.{Variant}
use Rattle.y86_isa.specs.declared.columns.Row.{Row}
use Rattle.y86_isa.specs.declared.columns.NextPcColumn.{NextPcColumn}
use Rattle.y86_isa.specs.declared.columns.NextPcColumn.TheVariants.{Itself, Fall, Branch, Target, Loaded}
use Rattle.y86_isa.specs.Table.{row}
use Rattle.y86_isa.specs.RowTests.{has_operand_a, accesses, stores_val_a, next_is_branch, next_is_val_m, select_a_is_val_a, select_a_is_val_p}
use Rattle.y86_isa.specs.Blocks.{fetch_status, register_number, destination_e, operand_a, operand_b, alu_function, is_load, is_store, data_address}
use Rattle.hcl_types.specs.Terms.{signed_below}
use Rattle.dp_signals.specs.PipeNames as name
use Rattle.y86_base.specs.Words.{set}
use Rattle.dp_signals.specs.declared.pipe_state.PipeState.{PipeState}
use Rattle.pipe_motion.specs.Flow.{StageFlow, Flow, loads, path, youngest_stops, o23, o24, o25, o26, o27}
use Rattle.pipe_refinement.specs.Kinds.{is_good, is_wrong, Schedule, requested_controls}
use Rattle.pipe_motion.specs.Predictions.{predicts}
use Rattle.pipe_motion.specs.declared.settings.Settings.{Settings}

-- the predicted PC after an instruction, if the prediction matters
abbrev pub predicted_pc : NextPcColumn → ℕ → ℕ → Bool → Option ℕ
predicted_pc Itself val_p val_c taken = None
predicted_pc Fall val_p val_c taken = Some val_p
predicted_pc Branch val_p val_c taken = Some (if taken then val_c else val_p)
predicted_pc Target val_p val_c taken = Some val_c
predicted_pc Loaded val_p val_c taken = None

-- O1 to O5: what is fetched, and the predicted PC after it
pub record FetchFacts (v : Variant) (s : Settings) (f : ℕ → ℕ) : Type 0 where
  pub icode : f name.f_icode ≡ f name.imem_icode
  pub ifun : f name.f_ifun ≡ f name.imem_ifun
  pub stat : f name.f_stat ≡ stat_number (fetch_status (set (f name.imem_error)) (f name.imem_icode))
  pub regids : set (f name.need_regids) ≡ (row v (f name.imem_icode)).has_byte
  pub constant : set (f name.need_valC) ≡ (row v (f name.imem_icode)).has_const
  pub prediction : set (f name.imem_error) ≡ false →
      IfSome
      (predicted_pc (row v (f name.imem_icode)).next (f name.f_valP) (f name.f_valC)
      (predicts s (f name.imem_ifun) (signed_below (f name.f_valC) (f name.f_valP))))
      (λ n. f name.f_predPC ≡ n)

-- the destination of valE in E, after the condition
abbrev pub late_dst_e : Variant → PipeState → (ℕ → ℕ) → ℕ
late_dst_e v p f = destination_e (row v p.e.icode).conditional (set (f name.e_Cnd)) p.e.dst_e

-- the value of a source among the older instructions, the youngest first; a load in E isn't considered
abbrev pub right_value : Variant → PipeState → (ℕ → ℕ) → Bool → ℕ → ℕ → ℕ
right_value v p f good_e source rest =
    if good_e && (source == late_dst_e v p f) then f name.e_valE
    else (if source == p.m.dst_m then f name.m_valM
    else (if source == p.m.dst_e then p.m.val_e
    else (if source == p.w.dst_m then p.w.val_m
    else (if source == p.w.dst_e then p.w.val_e else rest))))

-- the good instruction in D goes on to E
abbrev pub leaves_d : (ℕ → ℕ) → Bool → Bool
leaves_d f good_d = good_d && (loads (requested_controls f).e && not (requested_controls f).d.stall)

-- O6 to O11: registers and values of the instruction in D
pub record DecodeFacts (v : Variant) (s : Settings) (p : PipeState) (f : ℕ → ℕ) (c : Schedule) : Type 0 where
  pub src_a : f name.d_srcA ≡ register_number (row v p.d.icode).src_a p.d.r_a p.d.r_b
  pub src_b : f name.d_srcB ≡ register_number (row v p.d.icode).src_b p.d.r_a p.d.r_b
  pub dst_e : f name.d_dstE ≡ register_number (row v p.d.icode).dst_e p.d.r_a p.d.r_b
  pub dst_m : f name.d_dstM ≡ register_number (row v p.d.icode).dst_m p.d.r_a p.d.r_b
  pub val_p : leaves_d f (is_good c.d) ≡ true → select_a_is_val_p (row v p.d.icode) ≡ true → f name.d_valA ≡ p.d.val_p
  pub late_a : leaves_d f (is_good c.d) ≡ true → f name.d_srcA ≢ 15 → is_good c.e ≡ true → p.e.dst_m ≡ f name.d_srcA →
      s.lf && stores_val_a (row v p.d.icode).memory ≡ true
  pub val_a : leaves_d f (is_good c.d) ≡ true → f name.d_srcA ≢ 15 → (is_good c.e ≡ true → p.e.dst_m ≢ f name.d_srcA) →
      f name.d_valA ≡ right_value v p f (is_good c.e) (f name.d_srcA) (f name.d_rvalA)
  pub late_b : leaves_d f (is_good c.d) ≡ true → f name.d_srcB ≢ 15 → is_good c.e ≡ true → p.e.dst_m ≢ f name.d_srcB
  pub val_b : leaves_d f (is_good c.d) ≡ true → f name.d_srcB ≢ 15 →
      f name.d_valB ≡ right_value v p f (is_good c.e) (f name.d_srcB) (f name.d_rvalB)

-- the store in E takes its word late: the load before it, in M, gets it in this cycle
abbrev pub store_word_comes_late : Settings → Variant → PipeState → Bool → Bool
store_word_comes_late s v p good_m = s.lf && (stores_val_a (row v p.e.icode).memory && (good_m && (p.m.dst_m == p.e.src_a)))

-- valA is passed on to M: for rmmovq, ret, pushq, popq; or valP in its place: for jXX and call
abbrev pub needs_select_a : Row → Bool
needs_select_a r = select_a_is_val_a r || select_a_is_val_p r

-- O12 to O14, O16, O17, and the clause of the setting tv: the ALU computes the target of a jump
pub record ExecuteFacts (v : Variant) (s : Settings) (p : PipeState) (f : ℕ → ℕ) (c : Schedule) : Type 0 where
  pub alu_a : is_good c.e ≡ true → p.e.stat ≡ 1 → has_operand_a (row v p.e.icode).alu_a ≡ true →
      f name.aluA ≡ operand_a (row v p.e.icode).alu_a p.e.val_a p.e.val_c
  pub alu_b : is_good c.e ≡ true → p.e.stat ≡ 1 → has_operand_a (row v p.e.icode).alu_a ≡ true →
      f name.aluB ≡ operand_b (row v p.e.icode).alu_b p.e.val_b
  pub alufun : is_good c.e ≡ true → p.e.stat ≡ 1 → has_operand_a (row v p.e.icode).alu_a ≡ true →
      f name.alufun ≡ alu_function (row v p.e.icode).selects p.e.ifun
  pub val_a : is_good c.e ≡ true → needs_select_a (row v p.e.icode) ≡ true →
      f name.e_valA ≡ (if store_word_comes_late s v p (is_good c.m) then f name.m_valM else p.e.val_a)
  pub dst_e : is_wrong c.e ≡ false → f name.e_dstE ≡ late_dst_e v p f
  pub target : s.tv ≡ true → is_good c.e ≡ true → p.e.stat ≡ 1 → next_is_branch (row v p.e.icode).next ≡ true →
      (f name.aluA ≡ p.e.val_c) × (f name.aluB ≡ 0) × (f name.alufun ≡ 0)

-- O18: the address of the access in M
abbrev pub AddressIs : Variant → PipeState → (ℕ → ℕ) → Schedule → Type 0
AddressIs v p f c =
    is_good c.m ≡ true → accesses (row v p.m.icode).memory ≡ true →
    f name.mem_addr ≡ data_address (row v p.m.icode).memory p.m.val_a p.m.val_e

-- O18 and O20
pub record MemoryFacts (v : Variant) (p : PipeState) (f : ℕ → ℕ) (c : Schedule) : Type 0 where
  pub address : AddressIs v p f c
  pub stat : f name.m_stat ≡ (if set (f name.dmem_error) then 3 else p.m.stat)

-- O21: what W writes
pub record WriteFacts (p : PipeState) (f : ℕ → ℕ) (c : Schedule) : Type 0 where
  pub dst_e : is_good c.w ≡ true → f name.w_dstE ≡ p.w.dst_e
  pub val_e : is_good c.w ≡ true → f name.w_valE ≡ p.w.val_e
  pub dst_m : is_good c.w ≡ true → f name.w_dstM ≡ p.w.dst_m
  pub val_m : is_good c.w ≡ true → f name.w_valM ≡ p.w.val_m

-- O19, in stopping cycles too: what M reads and writes
pub record AccessFacts (v : Variant) (p : PipeState) (f : ℕ → ℕ) (c : Schedule) : Type 0 where
  pub reads : set (f name.mem_read) ≡ is_good c.m && is_load (row v p.m.icode).memory
  pub writes : set (f name.mem_write) ≡ is_good c.m && is_store (row v p.m.icode).memory

-- O15, in stopping cycles too: which instruction sets the flags
abbrev pub FlagsIs : Variant → PipeState → (ℕ → ℕ) → Schedule → Type 0
FlagsIs v p f c = set (f name.set_cc) ≡ is_good c.e && ((p.e.stat == 1) && (row v p.e.icode).sets_flags)

-- O15, O19 and O22
pub record AlwaysFacts (v : Variant) (p : PipeState) (f : ℕ → ℕ) (c : Schedule) : Type 0 where
  pub flags : FlagsIs v p f c
  pub access : AccessFacts v p f c
  pub stat : f name.Stat ≡ (if is_good c.w then p.w.stat else 1)

-- the PC is the right one after the youngest good instruction, a jump or a ret
pub data RightPc (v : Variant) (s : Settings) (p : PipeState) (f : ℕ → ℕ) (c : Schedule) : Type 0 where
  jump_e : is_good c.d ≡ false → is_good c.e ≡ true → p.e.stat ≡ 1 → next_is_branch (row v p.e.icode).next ≡ true →
      f name.f_pc ≡ (if set (f name.e_Cnd) then p.e.val_c else p.e.val_a) → RightPc v s p f c
  taken_m : is_good c.d ≡ false → is_good c.e ≡ false → is_good c.m ≡ true → p.m.stat ≡ 1 →
      next_is_branch (row v p.m.icode).next ≡ true → set p.m.cnd ≡ true → s.tv ≡ true → f name.f_pc ≡ p.m.val_e → RightPc v s p f c
  fell_m : is_good c.d ≡ false → is_good c.e ≡ false → is_good c.m ≡ true → p.m.stat ≡ 1 →
      next_is_branch (row v p.m.icode).next ≡ true → set p.m.cnd ≡ false → f name.f_pc ≡ p.m.val_a → RightPc v s p f c
  ret_m : is_good c.d ≡ false → is_good c.e ≡ false → is_good c.m ≡ true →
      next_is_val_m (row v p.m.icode).next ≡ true → f name.f_pc ≡ f name.m_valM → RightPc v s p f c
  ret_w : is_good c.d ≡ false → is_good c.e ≡ false → is_good c.m ≡ false → is_good c.w ≡ true →
      next_is_val_m (row v p.w.icode).next ≡ true → f name.f_pc ≡ p.w.val_m → RightPc v s p f c

-- the fetch is good: the youngest good instruction doesn't stop, and the PC is the predicted one on the path, or the right one
pub record GoodFetch (v : Variant) (s : Settings) (p : PipeState) (f : ℕ → ℕ) (c : Schedule) (y : Flow) : Type 0 where
  pub goes_on : youngest_stops y ≡ false
  pub right : ((f name.f_pc ≡ p.pred_pc) × (path y ≡ true)) ⊎ RightPc v s p f c

-- O23 to O27 for this flow; `good` says whether the fetch is good, `facts` are those of the instruction of a good fetch
pub record MotionFacts (v : Variant) (s : Settings) (p : PipeState) (f : ℕ → ℕ) (c : Schedule) (y : Flow) (good : Bool) (facts : StageFlow) : Type 0 where
  pub fetch : good ≡ true → GoodFetch v s p f c y
  pub apart : o23 (requested_controls f) ≡ true
  pub kept : o24 (requested_controls f) y ≡ true
  pub next : o25 s.je s.rm (requested_controls f) good facts y ≡ true
  pub leaves : o26 (requested_controls f) y ≡ true
  pub enters : o27 (requested_controls f) y ≡ true

-- a cycle that isn't stopping
pub record CycleFacts (v : Variant) (s : Settings) (p : PipeState) (f : ℕ → ℕ) (c : Schedule) (y : Flow) (good : Bool) (facts : StageFlow) : Type 0 where
  pub fetch : FetchFacts v s f
  pub decode : DecodeFacts v s p f c
  pub execute : ExecuteFacts v s p f c
  pub memory : MemoryFacts v p f c
  pub write : WriteFacts p f c
  pub motion : MotionFacts v s p f c y good facts
