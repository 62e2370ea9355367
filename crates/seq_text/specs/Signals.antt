-- The signals of a cycle that SEQ and SEQ+ share, by their names, and where the words of some of them come from.
use Rattle.std.specs.Prelude.{ℕ, List}
use Rattle.dp_signals.specs.SeqNames as seq
use Rattle.dp_signals.specs.SequentialRows.{seq as seq_at}
use Rattle.dp_signals.specs.declared.sequential_rows.SignalRows.{SignalRows}
use Rattle.hcl_types.specs.declared.table.Row.{Row}
use Rattle.hcl_types.specs.declared.term.Term.{Term}
use Rattle.seq_plus.specs.PlusNames as plus
use Rattle.pipe_stage_text.specs.Sources.{source}
use Rattle.seq_text.specs.declared.signals.Signals.{Signals}
use Rattle.seq_text.specs.declared.signals.Sources as code

-- the signals, if they have these rows
abbrev pub signals_by : SignalRows → (ℕ → ℕ) → Signals
signals_by r f =
    record {
      pc = f r.pc;
      imem_icode = f r.imem_icode;
      imem_ifun = f r.imem_ifun;
      imem_error = f r.imem_error;
      r_a = f r.r_a;
      r_b = f r.r_b;
      val_c = f r.val_c;
      val_p = f r.val_p;
      val_a = f r.val_a;
      val_b = f r.val_b;
      val_e = f r.val_e;
      cnd = f r.cnd;
      val_m = f r.val_m;
      dmem_error = f r.dmem_error;
      icode = f r.icode;
      ifun = f r.ifun;
      instr_valid = f r.instr_valid;
      need_regids = f r.need_regids;
      need_val_c = f r.need_val_c;
      src_a = f r.src_a;
      src_b = f r.src_b;
      dst_e = f r.dst_e;
      dst_m = f r.dst_m;
      alu_a = f r.alu_a;
      alu_b = f r.alu_b;
      alufun = f r.alufun;
      set_cc = f r.set_cc;
      mem_addr = f r.mem_addr;
      mem_read = f r.mem_read;
      mem_write = f r.mem_write;
      mem_data = f r.mem_data;
      stat = f r.stat;
    }

unfoldable pub seq_signals : (ℕ → ℕ) → Signals
seq_signals f = signals_by seq_at f

unfoldable pub plus_signals : (ℕ → ℕ) → Signals
plus_signals f = signals_by plus.plus f

-- the names that the definitions of aluA, aluB, mem_addr, mem_data, and of new_pc or pc pick, as they are printed
pub record Sources : Type 0 where
  pub alu_a : List ℕ
  pub alu_b : List ℕ
  pub mem_addr : List ℕ
  pub mem_data : List ℕ
  pub pc : List ℕ

unfoldable pub seq_sources : List Row → List Term → (ℕ → ℕ) → Sources
seq_sources rows terms f =
    record {
      alu_a = source seq.icode rows terms f seq.aluA;
      alu_b = source seq.icode rows terms f seq.aluB;
      mem_addr = source seq.icode rows terms f seq.mem_addr;
      mem_data = source seq.icode rows terms f seq.mem_data;
      pc = source seq.icode rows terms f seq.new_pc;
    }

unfoldable pub plus_sources : List Row → List Term → (ℕ → ℕ) → Sources
plus_sources rows terms f =
    record {
      alu_a = source plus.pc rows terms f plus.aluA;
      alu_b = source plus.pc rows terms f plus.aluB;
      mem_addr = source plus.pc rows terms f plus.mem_addr;
      mem_data = source plus.pc rows terms f plus.mem_data;
      pc = source plus.pc rows terms f plus.pc;
    }

abbrev pub sources_in : code.Sources → Sources
sources_in s = record { alu_a = s.alu_a.now; alu_b = s.alu_b.now; mem_addr = s.mem_addr.now; mem_data = s.mem_data.now; pc = s.pc.now }
