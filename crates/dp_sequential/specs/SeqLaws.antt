-- SEQ is a sequential datapath.
use Rattle.std.proofs.Common.{◌≡◌, ℕ, ◌==◌, Bool, true, false, cond, [], ◌++◌, length, refl, arith}
use Rattle.y86_base.specs.Stat.{stat_of}
use Rattle.y86_isa.specs.declared.machine.Machine.{Machine}
use Rattle.y86_isa.proofs.Memories.{length-stored}
use Rattle.dp_signals.specs.PipeEquations.{constants}
use Rattle.dp_signals.specs.SeqNames as row
use Rattle.dp_signals.specs.SeqTable.{seq_defined, seq_hardware, seq_rows, seq_state}
use Rattle.dp_signals.specs.SequentialRows.{seq}
use Rattle.dp_signals.specs.SequentialTables.{control_rows}
use Rattle.dp_signals.specs.Tables.{constant_rows}
use Rattle.dp_sequential.specs.Cycle.{block_by, fetched_by, store_by, updated, worked_by}
use Rattle.dp_sequential.specs.Laws.{IsSequential}
use Rattle.dp_sequential.specs.Reads.{hardware_reads}
use Rattle.dp_sequential.specs.Seq.{seq_given, seq_next, seq_path, seq_record}

keeps_by : (s : Machine) (f : ℕ → ℕ) (goes : Bool) → length (cond goes (updated seq s f (f row.new_pc)) (record s { stat = stat_of (f seq.stat) })).mem ≡ length s.mem
keeps_by s f true = length-stored s.mem (store_by seq f)
keeps_by s f false = refl

pub seq_lawful : IsSequential seq seq_path
unfolding seq_rows constant_rows seq_state seq_hardware seq_defined control_rows constants seq_given block_by fetched_by worked_by seq_next seq_record
seq_lawful = record {
  givens = constant_rows ++ seq_state;
  units = seq_hardware;
  defines = seq_defined;
  layout = record { parts = refl; given_rows = refl; hardware_rows = refl; defined_rows = refl; given_count = refl; before_first = refl };
  size = refl;
  front = omega arith;
  within = omega arith;
  reads = λ v s. hardware_reads row.pc row.hardware row.defined [] v s (λ f. s.pc) (λ f g e. refl) (λ f g e. refl) row.defined;
  given = λ s. refl;
  given_size = λ s. refl;
  blocks = λ v s n f. refl;
  tells = λ s f. refl;
  keeps = λ s f. keeps_by s f (f seq.stat == 1);
  starts = λ image. refl;
}
