-- One step: the machine after the work of an instruction, and the record that the instruction leaves.
use Rattle.std.specs.Prelude.{ℕ, Option, Some, None, if◌then◌else◌}
use Rattle.y86_base.specs.declared.parts.Flags.{Flags}
use Rattle.y86_base.specs.declared.parts.Variant.{Variant}
use Rattle.y86_isa.specs.declared.machine.Machine.{Machine}
use Rattle.y86_isa.specs.declared.machine.Rec.{Rec}
use Rattle.y86_isa.specs.declared.work.Work.{Work}
use Rattle.y86_isa.specs.Blocks.{written_back, stored}
use Rattle.y86_isa.specs.Machine.{is_aok, normal}
use Rattle.y86_isa.specs.Work.{work}

-- write back and PC update, if the instruction ends with AOK
abbrev pub finished : Machine → Work → Machine
finished m w =
    record {
      regs = written_back m.regs w.dst_e w.val_e w.dst_m w.val_m;
      flags = w.flags;
      pc = w.next_pc;
      stat = w.stat;
      mem = stored m.mem w.store;
    }

-- the machine after an instruction: if its status isn't AOK, only the status changes
abbrev pub machine_after : Machine → Work → Machine
machine_after m w = if is_aok w.stat then finished m w else record m { stat = w.stat }

-- what an instruction at a PC did, with the flags after it, and its record
abbrev pub raw_record : ℕ → Work → Flags → Rec
raw_record pc w flags =
    record {
      pc = pc;
      icode = w.icode;
      ifun = w.ifun;
      dst_e = w.dst_e;
      val_e = w.val_e;
      dst_m = w.dst_m;
      val_m = w.val_m;
      store = w.store;
      flags = flags;
      stat = w.stat;
    }

abbrev pub record_from : ℕ → Work → Flags → Rec
record_from pc w flags = normal (raw_record pc w flags)

abbrev pub record_of : Machine → Work → Rec
record_of m w = record_from m.pc w (machine_after m w).flags

-- a step of a machine whose status is AOK: the machine after it, and its record
abbrev pub step : Variant → Machine → Machine × Rec
step v m = (machine_after m (work v m), record_of m (work v m))

-- any machine after a step: one whose status isn't AOK stays as it is
unfoldable pub advance : Variant → Machine → Machine
advance v m = if is_aok m.stat then (step v m).0 else m

-- the record of that step; none if the machine has stopped
unfoldable pub retired : Variant → Machine → Option Rec
retired v m = if is_aok m.stat then Some (step v m).1 else None
