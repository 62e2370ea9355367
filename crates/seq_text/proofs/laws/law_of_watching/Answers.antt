use Rattle.dp_sequential.specs.Seq.{seq_path}
use Rattle.seq_plus.specs.PlusRun.{plus_path}
use Rattle.seq_text.specs.Observer.{plus_cycle_text, seq_cycle_text}
use Rattle.seq_text.proofs.Runs.{watches_the_run}
use Rattle.seq_text.proofs.laws.law_of_watching.Goals as goal

pub returns-clause-seq : goal.returns-clause-seq
returns-clause-seq c = watches_the_run seq_path seq_cycle_text

pub returns-clause-plus : goal.returns-clause-plus
returns-clause-plus c = watches_the_run plus_path plus_cycle_text
