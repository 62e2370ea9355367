-- The machine at the level of instructions, and the record of an instruction (CS:APP 3e, section 4.1.1).
use Rattle.std.specs.Prelude.{ℕ, Bool, true, false, nat_lt, List, replicate, None, if◌then◌else◌}
use Rattle.y86_base.specs.declared.parts.Flags.{Flags}
use Rattle.y86_base.specs.declared.parts.Stat.{Stat}
use Rattle.y86_base.specs.declared.parts.Stat.TheVariants.{Bub, Aok, Hlt, Adr, Ins, Pip, Bad}
use Rattle.y86_isa.specs.declared.machine.Machine.{Machine}
use Rattle.y86_isa.specs.declared.machine.Rec.{Rec}
use Rattle.y86_isa.specs.Table.{no_register}

-- all is well, and there is a next instruction
abbrev pub is_aok : Stat → Bool
is_aok Bub = false
is_aok Aok = true
is_aok Hlt = false
is_aok Adr = false
is_aok Ins = false
is_aok Pip = false
is_aok Bad = false

-- the registers and the flags before the first instruction
abbrev pub start_registers : List ℕ
start_registers = replicate 15 0

abbrev pub start_flags : Flags
start_flags = record { zf = true; sf = false; of = false }

-- the machine that starts on a memory
abbrev pub start : List ℕ → Machine
start memory = record { regs = start_registers; flags = start_flags; pc = 0; stat = Aok; mem = memory }

-- a destination, and the word that it gets; a destination that is no register is 15, and its word 0
abbrev pub written_number : ℕ → ℕ
written_number number = if nat_lt number no_register then number else no_register

abbrev pub written_word : ℕ → ℕ → ℕ
written_word number word = if nat_lt number no_register then word else 0

-- the normal form of a record. If an instruction ends with AOK, 15 is the only destination that is no register; if it
-- ends with another status, it has neither destinations nor a store
abbrev pub normal : Rec → Rec
normal r =
    if is_aok r.stat then
    record r {
      dst_e = written_number r.dst_e;
      val_e = written_word r.dst_e r.val_e;
      dst_m = written_number r.dst_m;
      val_m = written_word r.dst_m r.val_m;
    }
    else record r { dst_e = no_register; val_e = 0; dst_m = no_register; val_m = 0; store = None }
