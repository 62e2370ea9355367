-- The rows that the signals of a sequential datapath have in its table.
use Rattle.std.specs.Prelude.{ℕ, ◌+◌}
use Rattle.dp_signals.specs.SeqNames as signal
use Rattle.dp_signals.specs.declared.sequential_rows.SignalRows.{SignalRows}

-- the rows of a table in which pc has a row of its own, the hardware's rows follow one another from hardware on, and
-- the defined rows of the instruction's control follow one another from control on
abbrev pub rows_from : ℕ → ℕ → ℕ → SignalRows
rows_from pc hardware control =
    record {
      pc = pc;
      imem_icode = hardware + 0;
      imem_ifun = hardware + 1;
      imem_error = hardware + 2;
      r_a = hardware + 3;
      r_b = hardware + 4;
      val_c = hardware + 5;
      val_p = hardware + 6;
      val_a = hardware + 7;
      val_b = hardware + 8;
      val_e = hardware + 9;
      cnd = hardware + 10;
      val_m = hardware + 11;
      dmem_error = hardware + 12;
      icode = control + 0;
      ifun = control + 1;
      instr_valid = control + 2;
      need_regids = control + 3;
      need_val_c = control + 4;
      src_a = control + 5;
      src_b = control + 6;
      dst_e = control + 7;
      dst_m = control + 8;
      alu_a = control + 9;
      alu_b = control + 10;
      alufun = control + 11;
      set_cc = control + 12;
      mem_addr = control + 13;
      mem_read = control + 14;
      mem_write = control + 15;
      mem_data = control + 16;
      stat = control + 17;
    }

-- the rows of SEQ's signals
abbrev pub seq : SignalRows
seq = rows_from signal.pc signal.hardware signal.defined
