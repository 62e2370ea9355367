-- One instruction, with all that it reads and computes (CS:APP 3e, section 4.3.1 and figures 4.18 to 4.21).
use Rattle.std.specs.Prelude.{ℕ, List, if◌then◌else◌}
use Rattle.y86_base.specs.Registers.{register}
use Rattle.y86_base.specs.declared.parts.Flags.{Flags}
use Rattle.y86_base.specs.declared.parts.Stat.TheVariants.{Adr}
use Rattle.y86_base.specs.declared.parts.Variant.{Variant}
use Rattle.y86_isa.specs.declared.columns.Row.{Row}
use Rattle.y86_isa.specs.declared.fetch.Fetched.{Fetched}
use Rattle.y86_isa.specs.declared.machine.Machine.{Machine}
use Rattle.y86_isa.specs.declared.stages.Accessed.{Accessed}
use Rattle.y86_isa.specs.declared.stages.Decoded.{Decoded}
use Rattle.y86_isa.specs.declared.stages.Executed.{Executed}
use Rattle.y86_isa.specs.declared.work.Work.{Work}
use Rattle.y86_isa.specs.Table.{row}
use Rattle.y86_isa.specs.Blocks.{fetched, fetch_status, register_number, operand_a, operand_b, alu_value, alu_function, flags_after, condition, destination_e, is_load, is_store, data_address, data_word, data_error, data_read, data_store, next_address}

-- decode (figure 4.28): the registers that the row names, and the words of the sources
abbrev pub decoded : List ℕ → Row → Fetched → Decoded
decoded registers r f =
    let src_a = register_number r.src_a f.r_a f.r_b in
    let src_b = register_number r.src_b f.r_a f.r_b in
    record {
      src_a = src_a;
      src_b = src_b;
      raw_dst_e = register_number r.dst_e f.r_a f.r_b;
      dst_m = register_number r.dst_m f.r_a f.r_b;
      val_a = register registers src_a;
      val_b = register registers src_b;
    }

-- execute (figure 4.29): the ALU on the row's operands; the condition is evaluated on the flags before the instruction
abbrev pub executed : Flags → Row → Fetched → Decoded → Executed
executed before r f d =
    let function = alu_function r.selects f.ifun in
    let a = operand_a r.alu_a d.val_a f.val_c in
    let b = operand_b r.alu_b d.val_b in
    let cnd = condition f.ifun before in
    record {
      val_e = alu_value function a b;
      flags = flags_after r.sets_flags function a b before;
      cnd = cnd;
      dst_e = destination_e r.conditional cnd d.raw_dst_e;
    }

-- the access to memory (figure 4.30): the word that is read, or the store, which takes place only inside memory
abbrev pub accessed : List ℕ → Row → Fetched → ℕ → ℕ → Accessed
accessed memory r f val_a val_e =
    let address = data_address r.memory val_a val_e in
    let fault = data_error memory address (is_load r.memory) (is_store r.memory) in
    record {
      address = address;
      fault = fault;
      val_m = data_read memory address (is_load r.memory);
      store = data_store address (data_word r.memory val_a f.val_p) (is_store r.memory) fault;
    }

-- the work of an instruction that was fetched, by its row: the stages, the next PC (figure 4.31) and the status
abbrev pub worked : Machine → Row → Fetched → Work
worked m r f =
    let d = decoded m.regs r f in
    let e = executed m.flags r f d in
    let a = accessed m.mem r f d.val_a e.val_e in
    let fetch_stat = fetch_status f.error f.icode in
    record {
      fetch_stat = fetch_stat;
      icode = f.icode;
      ifun = f.ifun;
      r_a = f.r_a;
      r_b = f.r_b;
      val_c = f.val_c;
      val_p = f.val_p;
      src_a = d.src_a;
      src_b = d.src_b;
      raw_dst_e = d.raw_dst_e;
      dst_m = d.dst_m;
      val_a = d.val_a;
      val_b = d.val_b;
      val_e = e.val_e;
      flags = e.flags;
      cnd = e.cnd;
      dst_e = e.dst_e;
      address = a.address;
      fault = a.fault;
      val_m = a.val_m;
      store = a.store;
      next_pc = next_address r.next m.pc f.val_p f.val_c a.val_m e.cnd;
      stat = if a.fault then Adr else fetch_stat;
    }

-- the work of the instruction at a machine's PC
unfoldable pub work : Variant → Machine → Work
work v m =
    let f = fetched v m.mem m.pc in
    worked m (row v f.icode) f
