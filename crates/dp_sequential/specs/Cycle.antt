-- What one cycle of a sequential datapath does with the values of its signals (CS:APP 3e, section 4.3.4). r gives the
-- row of each signal, and f gives the value of each row of the table.
use Rattle.std.specs.Prelude.{ℕ, ◌==◌, List, Option, if◌then◌else◌}
use Rattle.y86_base.specs.Registers.{register}
use Rattle.y86_base.specs.Stat.{stat_of}
use Rattle.y86_base.specs.Words.{set}
use Rattle.y86_base.specs.declared.parts.Flags.{Flags}
use Rattle.y86_base.specs.declared.parts.Variant.{Variant}
use Rattle.y86_isa.specs.Blocks.{alu_value, behind, condition, constant_at, data_error, data_read, data_store, field_a, field_b, flags_after, reading, stored, written_back}
use Rattle.y86_isa.specs.Machine.{normal}
use Rattle.y86_isa.specs.declared.machine.Machine.{Machine}
use Rattle.y86_isa.specs.declared.machine.Rec.{Rec}
use Rattle.y86_isa.specs.declared.machine.Store.{Store}
use Rattle.dp_signals.specs.Values.{bit}
use Rattle.dp_signals.specs.declared.sequential_rows.SignalRows.{SignalRows}

-- the value of a hardware row in a cycle on the machine m: the register file, the ALU and the condition, data memory
unfoldable pub worked_by : SignalRows → Machine → ℕ → (ℕ → ℕ) → ℕ
worked_by r m n f =
    if n == r.val_a then register m.regs (f r.src_a)
    else (if n == r.val_b then register m.regs (f r.src_b)
    else (if n == r.val_e then alu_value (f r.alufun) (f r.alu_a) (f r.alu_b)
    else (if n == r.cnd then bit (condition (f r.ifun) m.flags)
    else (if n == r.val_m then data_read m.mem (f r.mem_addr) (set (f r.mem_read))
    else (if n == r.dmem_error then bit (data_error m.mem (f r.mem_addr) (set (f r.mem_read)) (set (f r.mem_write)))
    else 0)))))

-- the value of a hardware row in a cycle on the machine m: the fetched fields and words, and the rows of worked_by
unfoldable pub fetched_by : SignalRows → Machine → ℕ → (ℕ → ℕ) → ℕ
fetched_by r m n f =
    if n == r.r_a then field_a m.mem m.pc (set (f r.need_regids))
    else (if n == r.r_b then field_b m.mem m.pc (set (f r.need_regids))
    else (if n == r.val_c then constant_at m.mem m.pc (set (f r.need_regids)) (set (f r.need_val_c))
    else (if n == r.val_p then behind m.pc (set (f r.need_regids)) (set (f r.need_val_c))
    else worked_by r m n f)))

-- the value of a hardware row in a cycle on the machine m: instruction memory at the PC, and the rows of fetched_by
unfoldable pub block_by : SignalRows → Variant → Machine → ℕ → (ℕ → ℕ) → ℕ
block_by r v m n f =
    if n == r.imem_icode then (reading v m.mem m.pc).icode
    else (if n == r.imem_ifun then (reading v m.mem m.pc).ifun
    else (if n == r.imem_error then bit (reading v m.mem m.pc).error
    else fetched_by r m n f))

-- the store of the cycle: mem_data at mem_addr, if mem_write requests it and there is no error
abbrev pub store_by : SignalRows → (ℕ → ℕ) → Option Store
store_by r f = data_store (f r.mem_addr) (f r.mem_data) (set (f r.mem_write)) (set (f r.dmem_error))

-- the registers, the flags and the memory after a cycle whose Stat is AOK: all is read as the cycle begins, dstE is written before dstM
abbrev pub registers_by : SignalRows → List ℕ → (ℕ → ℕ) → List ℕ
registers_by r regs f = written_back regs (f r.dst_e) (f r.val_e) (f r.dst_m) (f r.val_m)

abbrev pub flags_by : SignalRows → Flags → (ℕ → ℕ) → Flags
flags_by r flags f = flags_after (set (f r.set_cc)) (f r.alufun) (f r.alu_a) (f r.alu_b) flags

abbrev pub memory_by : SignalRows → List ℕ → (ℕ → ℕ) → List ℕ
memory_by r mem f = stored mem (store_by r f)

-- the record of a cycle at a PC that leaves these flags, in the normal form of records
abbrev pub record_by : SignalRows → ℕ → Flags → (ℕ → ℕ) → Rec
record_by r pc flags f =
    normal (record {
      pc = pc;
      icode = f r.icode;
      ifun = f r.ifun;
      dst_e = f r.dst_e;
      val_e = f r.val_e;
      dst_m = f r.dst_m;
      val_m = f r.val_m;
      store = store_by r f;
      flags = flags;
      stat = stat_of (f r.stat);
    })

-- the machine after a cycle on the machine m whose Stat is AOK, which leads to this PC: all changes at once
abbrev pub updated : SignalRows → Machine → (ℕ → ℕ) → ℕ → Machine
updated r m f pc =
    record {
      regs = registers_by r m.regs f;
      flags = flags_by r m.flags f;
      pc = pc;
      stat = stat_of (f r.stat);
      mem = memory_by r m.mem f;
    }

-- the machine after a cycle on the machine m: with another Stat than AOK, only the status changes
abbrev pub stepped : SignalRows → Machine → (ℕ → ℕ) → ℕ → Machine
stepped r m f pc = if f r.stat == 1 then updated r m f pc else record m { stat = stat_of (f r.stat) }
