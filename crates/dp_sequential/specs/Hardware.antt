-- The equations of the hardware in a cycle on the machine m, by the names of its signals, which have the rows r.
use Rattle.std.specs.Prelude.{◌≡◌, ℕ}
use Rattle.y86_base.specs.Registers.{register}
use Rattle.y86_base.specs.Words.{set}
use Rattle.y86_base.specs.declared.parts.Variant.{Variant}
use Rattle.y86_isa.specs.Blocks.{reading, field_a, field_b, constant_at, behind, alu_value, condition, data_read, data_error}
use Rattle.y86_isa.specs.declared.machine.Machine.{Machine}
use Rattle.dp_signals.specs.Values.{bit}
use Rattle.dp_signals.specs.declared.sequential_rows.SignalRows.{SignalRows}

pub record HasHardware (r : SignalRows) (v : Variant) (m : Machine) (f : ℕ → ℕ) : Type 0 where
  pub imem_icode : f r.imem_icode ≡ (reading v m.mem m.pc).icode
  pub imem_ifun : f r.imem_ifun ≡ (reading v m.mem m.pc).ifun
  pub imem_error : f r.imem_error ≡ bit (reading v m.mem m.pc).error
  pub rA : f r.r_a ≡ field_a m.mem m.pc (set (f r.need_regids))
  pub rB : f r.r_b ≡ field_b m.mem m.pc (set (f r.need_regids))
  pub valC : f r.val_c ≡ constant_at m.mem m.pc (set (f r.need_regids)) (set (f r.need_val_c))
  pub valP : f r.val_p ≡ behind m.pc (set (f r.need_regids)) (set (f r.need_val_c))
  pub valA : f r.val_a ≡ register m.regs (f r.src_a)
  pub valB : f r.val_b ≡ register m.regs (f r.src_b)
  pub valE : f r.val_e ≡ alu_value (f r.alufun) (f r.alu_a) (f r.alu_b)
  pub Cnd : f r.cnd ≡ bit (condition (f r.ifun) m.flags)
  pub valM : f r.val_m ≡ data_read m.mem (f r.mem_addr) (set (f r.mem_read))
  pub dmem_error : f r.dmem_error ≡ bit (data_error m.mem (f r.mem_addr) (set (f r.mem_read)) (set (f r.mem_write)))
