use Rattle.dp_sequential.proofs.SeqRows.{seq_hardware_rows, seq_pc}
use Rattle.seq_path.proofs.laws.law_of_equations.Goals as goal

pub returns-clause-pc : goal.returns-clause-pc
returns-clause-pc c = seq_pc

pub returns-clause-hardware : goal.returns-clause-hardware
returns-clause-hardware c = seq_hardware_rows
