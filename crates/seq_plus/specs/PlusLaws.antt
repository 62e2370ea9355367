-- SEQ+ is a sequential datapath.
use Rattle.std.proofs.Common.{◌≡◌, ℕ, ◌==◌, Bool, true, false, cond, [], ◌∷◌, ◌++◌, length, refl, arith}
use Rattle.y86_base.specs.Stat.{stat_of}
use Rattle.y86_base.specs.declared.parts.Stat.{Stat}
use Rattle.y86_isa.proofs.Memories.{length-stored}
use Rattle.dp_signals.specs.PipeEquations.{constants}
use Rattle.dp_signals.specs.SequentialTables.{control_rows}
use Rattle.dp_signals.specs.Tables.{constant_rows}
use Rattle.dp_sequential.specs.Cycle.{flags_by, memory_by, registers_by}
use Rattle.dp_sequential.specs.Laws.{IsSequential}
use Rattle.dp_sequential.specs.Reads.{hardware_reads}
use Rattle.seq_plus.specs.PlusCycle.{plus_next, plus_record, previous_of}
use Rattle.seq_plus.specs.PlusEquations.{at_pc, plus_block, plus_given}
use Rattle.seq_plus.specs.PlusNames as row
use Rattle.seq_plus.specs.PlusRun.{plus_path}
use Rattle.seq_plus.specs.PlusTable.{plus_state, plus_hardware, plus_defined, plus_rows}
use Rattle.seq_plus.specs.declared.state.PlusState.{PlusState}

keeps_by : (t : PlusState) (f : ℕ → ℕ) (goes : Bool) (stat : Stat) → length (cond goes
    (record {
      previous = previous_of f;
      regs = registers_by row.plus t.regs f;
      flags = flags_by row.plus t.flags f;
      stat = stat;
      mem = memory_by row.plus t.mem f;
    })
    (record t { stat = stat })).mem ≡ length t.mem
keeps_by t f true stat = length-stored t.mem _
keeps_by t f false stat = refl

pub plus_lawful : IsSequential row.plus plus_path
unfolding plus_rows constant_rows plus_state plus_hardware plus_defined control_rows constants plus_given plus_block plus_next plus_record
plus_lawful = record {
  givens = constant_rows ++ plus_state;
  units = plus_hardware;
  defines = plus_defined;
  layout = record { parts = refl; given_rows = refl; hardware_rows = refl; defined_rows = refl; given_count = refl; before_first = refl };
  size = refl;
  front = omega arith;
  within = omega arith;
  reads = λ v t. hardware_reads row.pc row.hardware row.icode (row.pc ∷ []) v (at_pc t 0) (λ f. f row.pc) (λ f g e. e) (λ f g h. h.0) row.defined;
  given = λ t. refl;
  given_size = λ t. refl;
  blocks = λ v t n f. refl;
  tells = λ t f. refl;
  keeps = λ t f. keeps_by t f (f row.Stat == 1) (stat_of (f row.Stat));
  starts = λ image. refl;
}
