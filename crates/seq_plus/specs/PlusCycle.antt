-- What one cycle of SEQ+ does with the values of its signals: the next state, and the record. f gives the value of each row of the table.
use Rattle.std.specs.Prelude.{ℕ, ◌==◌, if◌then◌else◌}
use Rattle.y86_base.specs.Stat.{stat_of}
use Rattle.y86_base.specs.declared.parts.Flags.{Flags}
use Rattle.y86_isa.specs.declared.machine.Rec.{Rec}
use Rattle.dp_sequential.specs.Cycle.{flags_by, memory_by, record_by, registers_by}
use Rattle.seq_plus.specs.PlusNames as row
use Rattle.seq_plus.specs.declared.state.PlusState.{PlusState}
use Rattle.seq_plus.specs.declared.state.PreviousInstruction.{PreviousInstruction}

-- what the instruction leaves for the PC of the next one
abbrev pub previous_of : (ℕ → ℕ) → PreviousInstruction
previous_of f = record { icode = f row.icode; cnd = f row.Cnd; val_m = f row.valM; val_c = f row.valC; val_p = f row.valP }

-- the state after a cycle whose Stat is AOK: all is read as the cycle begins, dstE is written before dstM, and all
-- changes at once. With another Stat, only the status changes.
unfoldable pub plus_next : PlusState → (ℕ → ℕ) → PlusState
plus_next t f =
    if f row.Stat == 1 then
    record {
      previous = previous_of f;
      regs = registers_by row.plus t.regs f;
      flags = flags_by row.plus t.flags f;
      stat = stat_of (f row.Stat);
      mem = memory_by row.plus t.mem f;
    }
    else record t { stat = stat_of (f row.Stat) }

-- the record of a cycle: at the PC that it computes, with the flags after it
abbrev pub plus_record_from : Flags → (ℕ → ℕ) → Rec
plus_record_from flags f = record_by row.plus (f row.pc) flags f

unfoldable pub plus_record : PlusState → (ℕ → ℕ) → Rec
plus_record t f = plus_record_from (plus_next t f).flags f
