-- The 27 obligations of a file for PIPE, each a truth of a valuation and control values (CS:APP 3e, sections 4.5.5 to 4.5.8).
-- The arguments of all: the variant, the settings, the fields of the valuation, the flow of its stages, its stall and
-- bubble signals, the truths of atoms, and the control value of each name.
use Rattle.std.specs.Prelude.{ℕ, Bool, false, not, ◌&&◌, ◌||◌, ◌==◌, Option, Some, None, if◌then◌else◌}
use Rattle.y86_base.specs.declared.parts.Variant.{Variant}
use Rattle.y86_base.specs.Stat.{stat_number}
use Rattle.y86_isa.specs.declared.columns.NextPcColumn.{NextPcColumn}
use Rattle.y86_isa.specs.declared.columns.NextPcColumn.TheVariants.{Itself, Fall, Branch, Target, Loaded}
use Rattle.y86_isa.specs.Table.{row, no_register}
use Rattle.y86_isa.specs.RowTests.{has_operand_a, stores_val_a, select_a_is_val_p, select_a_is_val_a}
use Rattle.y86_isa.specs.Blocks.{fetch_status, register_number, destination_e, alu_function, is_load, is_store}
use Rattle.ctl_atoms.specs.declared.leaf.Leaf.{Leaf}
use Rattle.ctl_atoms.specs.declared.leaf.Leaf.TheVariants.{Name, Number}
use Rattle.ctl_atoms.specs.Leaves.{Assignment, leaf_holds}
use Rattle.y86_base.specs.Words.{set}
use Rattle.ctl_rules.specs.ColumnDemands.{picks_leaf, picks_some_leaf, is_number, is_truth, operand_leaf_a, operand_leaf_b, address_leaf}
use Rattle.pipe_fields.specs.Layout.{Fields}
use Rattle.pipe_motion.specs.Flow.{StageFlow, Flow, path, youngest_stops, of_youngest, RegisterControl, RegisterControls, leaves}
use Rattle.pipe_motion.specs.Flow as motion
use Rattle.pipe_motion.specs.Predictions.{predicts}
use Rattle.pipe_motion.specs.declared.settings.Settings.{Settings}
use Rattle.pipe_obligations.specs.StageFlows.{stage_flow_by, stops_by, is_ret, is_jump, is_missed}
use Rattle.dp_signals.specs.PipeNames as signal

-- the ten stall and bubble signals, as truths
abbrev register_control_of : Assignment → (ℕ → Leaf) → ℕ → ℕ → RegisterControl
register_control_of α cv stall bubble = record { stall = leaf_holds α (cv stall); bubble = leaf_holds α (cv bubble) }

abbrev pub register_controls_of : Assignment → (ℕ → Leaf) → RegisterControls
register_controls_of α cv = record {
  f = register_control_of α cv signal.F_stall signal.F_bubble;
  d = register_control_of α cv signal.D_stall signal.D_bubble;
  e = register_control_of α cv signal.E_stall signal.E_bubble;
  m = register_control_of α cv signal.M_stall signal.M_bubble;
  w = register_control_of α cv signal.W_stall signal.W_bubble;
}

-- the predicted PC after an instruction, if the prediction matters: not for halt, ret and an invalid one
abbrev pub predicted_leaf : NextPcColumn → Bool → Option Leaf
predicted_leaf Itself taken = None
predicted_leaf Fall taken = Some (Name signal.f_valP)
predicted_leaf Branch taken = Some (if taken then Name signal.f_valC else Name signal.f_valP)
predicted_leaf Target taken = Some (Name signal.f_valC)
predicted_leaf Loaded taken = None

-- the number of a code; a name counts as 15
abbrev pub code_of : Leaf → ℕ
code_of (Number n) = n
code_of (Name x) = no_register

module _ (v : Variant) (s : Settings) (c : Fields) (y : Flow) (mv : RegisterControls) (α : Assignment) (cv : ℕ → Leaf) where
  -- ---- fetch

  -- f_icode and f_ifun are what was read
  abbrev pub o1 : Bool
  o1 = is_number cv signal.f_icode c.f.icode && is_number cv signal.f_ifun c.f.ifun

  -- f_stat is the status of what was read
  abbrev pub o2 : Bool
  o2 = is_number cv signal.f_stat (stat_number (fetch_status (set c.f.error) c.f.icode))

  -- need_regids and need_valC hold exactly if the instruction has a register byte, a constant
  abbrev pub o3 : Bool
  o3 = is_truth α cv signal.need_regids (row v c.f.icode).has_byte

  abbrev pub o4 : Bool
  o4 = is_truth α cv signal.need_valC (row v c.f.icode).has_const

  -- f_predPC is the predicted PC after the instruction
  abbrev pub o5 : Bool
  o5 = set c.f.error || picks_some_leaf cv signal.f_predPC (predicted_leaf (row v c.f.icode).next (predicts s c.f.ifun (set c.f.back)))

  -- ---- decode: the registers of the row of D's icode, whatever D's kind

  abbrev pub o6 : Bool
  o6 = is_number cv signal.d_srcA (register_number (row v c.d.icode).src_a c.d.r_a c.d.r_b)

  abbrev pub o7 : Bool
  o7 = is_number cv signal.d_srcB (register_number (row v c.d.icode).src_b c.d.r_a c.d.r_b)

  -- for a conditional move, as if its condition held
  abbrev pub o8 : Bool
  o8 = is_number cv signal.d_dstE (register_number (row v c.d.icode).dst_e c.d.r_a c.d.r_b)

  abbrev pub o9 : Bool
  o9 = is_number cv signal.d_dstM (register_number (row v c.d.icode).dst_m c.d.r_a c.d.r_b)

  -- E's destination after the condition
  abbrev pub late_dst_e : ℕ
  late_dst_e = destination_e (row v c.e.icode).conditional (set c.e.cnd) c.e.dst_e

  -- Where the value of a source is: with the youngest older instruction that writes the register, else in the
  -- register file. (A bubble writes no register.)
  abbrev pub right_value : ℕ → ℕ → Leaf
  right_value source rest =
      if y.e.good && is_number cv source late_dst_e then Name signal.e_valE
      else (if is_number cv source c.m.dst_m then Name signal.m_valM
      else (if is_number cv source c.m.dst_e then Name signal.M_valE
      else (if is_number cv source c.w.dst_m then Name signal.W_valM
      else (if is_number cv source c.w.dst_e then Name signal.W_valE
      else Name rest))))

  -- the source is the register that the good instruction in E is loading: its value isn't known yet
  abbrev pub loaded_in_e : ℕ → Bool
  loaded_in_e source = y.e.good && is_number cv source c.e.dst_m

  -- the word picks the right value of a source, if there is a source; if that value isn't known yet, no word is
  -- right, or any (free)
  abbrev pub picks_right_value : Bool → ℕ → ℕ → ℕ → Bool
  picks_right_value free word source rest =
      is_number cv source no_register || (if loaded_in_e source then free else picks_leaf cv word (right_value source rest))

  -- If a good instruction leaves D: for jXX and call, d_valA is valP; else it is the right value of d_srcA.
  -- With lf a store needn't wait for the word that it stores.
  abbrev pub o10 : Bool
  o10 =
      not (leaves mv y)
      || ((not (select_a_is_val_p (row v c.d.icode)) || picks_leaf cv signal.d_valA (Name signal.D_valP))
      && picks_right_value (s.lf && stores_val_a (row v c.d.icode).memory) signal.d_valA signal.d_srcA signal.d_rvalA)

  -- if a good instruction leaves D, d_valB is the right value of d_srcB
  abbrev pub o11 : Bool
  o11 = not (leaves mv y) || picks_right_value false signal.d_valB signal.d_srcB signal.d_rvalB

  -- ---- execute

  -- a good instruction with status 1 (AOK) is in E
  abbrev pub works_in_e : Bool
  works_in_e = y.e.good && c.e.stat == 1

  -- the operands and the function of the ALU, where it is used
  abbrev pub o12 : Bool
  o12 = not works_in_e || picks_some_leaf cv signal.aluA (operand_leaf_a (row v c.e.icode).alu_a signal.E_valA signal.E_valC)

  abbrev pub o13 : Bool
  o13 = not works_in_e || picks_some_leaf cv signal.aluB (operand_leaf_b (row v c.e.icode).alu_b signal.E_valB)

  abbrev pub o14 : Bool
  o14 = not (works_in_e && has_operand_a (row v c.e.icode).alu_a) || is_number cv signal.alufun (alu_function (row v c.e.icode).selects c.e.ifun)

  -- the flags are set exactly by a good instruction with status 1 (AOK) that sets flags
  abbrev pub o15 : Bool
  o15 = is_truth α cv signal.set_cc (works_in_e && (row v c.e.icode).sets_flags)

  -- with lf, a store takes the word that it stores from the load in M
  abbrev pub word_comes_late : Bool
  word_comes_late = s.lf && (stores_val_a (row v c.e.icode).memory && (y.m.good && c.m.dst_m == c.e.src_a))

  -- e_valA is valA for the instructions that use it in M, and valP for jXX and call
  abbrev pub o16 : Bool
  o16 =
      not (y.e.good && (select_a_is_val_a (row v c.e.icode) || select_a_is_val_p (row v c.e.icode)))
      || picks_leaf cv signal.e_valA (if word_comes_late then Name signal.m_valM else Name signal.E_valA)

  -- for good instructions and bubbles, e_dstE is E's destination after the condition
  abbrev pub o17 : Bool
  o17 = y.e.wrong || is_number cv signal.e_dstE late_dst_e

  -- ---- memory

  -- the address of a good instruction that accesses memory
  abbrev pub o18 : Bool
  o18 = not y.m.good || picks_some_leaf cv signal.mem_addr (address_leaf (row v c.m.icode).memory signal.M_valA signal.M_valE)

  -- mem_read holds exactly for a good instruction that reads, mem_write for one that writes
  abbrev pub o19 : Bool
  o19 =
      is_truth α cv signal.mem_read (y.m.good && is_load (row v c.m.icode).memory)
      && is_truth α cv signal.mem_write (y.m.good && is_store (row v c.m.icode).memory)

  -- m_stat reports the fault, whatever M's kind
  abbrev pub o20 : Bool
  o20 = is_number cv signal.m_stat (if set c.m.error then 3 else c.m.stat)

  -- ---- write back

  -- a good instruction writes what W holds
  abbrev pub o21 : Bool
  o21 =
      not y.w.good
      || (is_number cv signal.w_dstE c.w.dst_e
      && (is_number cv signal.w_dstM c.w.dst_m
      && (picks_leaf cv signal.w_valE (Name signal.W_valE)
      && picks_leaf cv signal.w_valM (Name signal.W_valM))))

  -- the machine's status is that of the good instruction in W, and 1 if there is none
  abbrev pub o22 : Bool
  o22 = is_number cv signal.Stat (if y.w.good then c.w.stat else 1)

  -- ---- motion

  -- no register is both stalled and bubbled; no good instruction is lost or doubled
  abbrev pub o23 : Bool
  o23 = motion.o23 mv

  abbrev pub o24 : Bool
  o24 = motion.o24 mv y

  -- f_pc is where the jump in E goes, the jump or the ret in M, the ret in W
  abbrev pub right_after_e : Bool
  right_after_e = is_jump v c.e.stat c.e.icode && picks_leaf cv signal.f_pc (if set c.e.cnd then Name signal.E_valC else Name signal.E_valA)

  abbrev pub right_after_m : Bool
  right_after_m =
      (is_jump v c.m.stat c.m.icode && (if set c.m.cnd then s.tv && picks_leaf cv signal.f_pc (Name signal.M_valE) else picks_leaf cv signal.f_pc (Name signal.M_valA)))
      || (y.m.ret && picks_leaf cv signal.f_pc (Name signal.m_valM))

  abbrev pub right_after_w : Bool
  right_after_w = y.w.ret && picks_leaf cv signal.f_pc (Name signal.W_valM)

  -- the youngest good instruction is a jump or ret whose stage has the address where it goes, and f_pc is that address
  abbrev pub right_pc : Bool
  right_pc = of_youngest y false right_after_e right_after_m right_after_w

  -- the fetch is that of the next instruction: the youngest good one doesn't stop, and f_pc is where it goes, or the predicted PC on the path
  abbrev pub fetch_good : Bool
  fetch_good = not (youngest_stops y) && ((picks_leaf cv signal.f_pc (Name signal.F_predPC) && path y) || right_pc)

  -- what D loads from a good fetch
  abbrev pub fetched : StageFlow
  fetched =
      stage_flow_by 1 (stops_by (code_of (cv signal.f_stat)) c.f.stops) (is_ret v (code_of (cv signal.f_icode)))
      (is_missed v s (code_of (cv signal.f_stat)) (code_of (cv signal.f_icode)) (code_of (cv signal.f_ifun)) c.f.taken c.f.back)

  -- the next cycle's flow is legal, has no wrong instruction in M and W, and keeps the path
  abbrev pub o25 : Bool
  o25 = motion.o25 s.je s.rm mv fetch_good fetched y

  -- if E, M and W hold bubbles, the good instruction in D leaves; if the pipeline is empty, D loads
  abbrev pub o26 : Bool
  o26 = motion.o26 mv y

  abbrev pub o27 : Bool
  o27 = motion.o27 mv y

  -- ---- beside the 27: with tv, a jump carries its target through the ALU
  abbrev pub target_in_alu : Bool
  target_in_alu =
      not (y.e.good && is_jump v c.e.stat c.e.icode)
      || (picks_leaf cv signal.aluA (Name signal.E_valC) && (is_number cv signal.aluB 0 && is_number cv signal.alufun 0))
