use Rattle.seq_text.proofs.WhereFrom.{plus_sources_told, seq_sources_told}
use Rattle.seq_text.proofs.laws.law_of_sources.Goals as goal

pub returns-clause-seq : goal.returns-clause-seq
returns-clause-seq c = seq_sources_told

pub returns-clause-plus : goal.returns-clause-plus
returns-clause-plus c = plus_sources_told
