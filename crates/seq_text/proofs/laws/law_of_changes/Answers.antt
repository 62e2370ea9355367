use Rattle.seq_text.proofs.Changes.{plus_tells_changes, seq_tells_changes}
use Rattle.seq_text.proofs.laws.law_of_changes.Goals as goal

pub returns-clause-seq : goal.returns-clause-seq
returns-clause-seq c = seq_tells_changes

pub returns-clause-plus : goal.returns-clause-plus
returns-clause-plus c = plus_tells_changes
