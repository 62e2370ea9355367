use Rattle.seq_plus.proofs.PlusCycles.{plus_cycle_tells}
use Rattle.seq_plus.proofs.laws.law_of_plus_cycles.Goals as goal

pub returns : goal.returns
returns c = plus_cycle_tells
