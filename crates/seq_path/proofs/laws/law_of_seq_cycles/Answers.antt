use Rattle.seq_path.proofs.Cycles.{seq_cycle_tells}
use Rattle.seq_path.proofs.laws.law_of_seq_cycles.Goals as goal

pub returns : goal.returns
returns c = seq_cycle_tells
