use Rattle.dp_signals.specs.SequentialRows.{seq}
use Rattle.dp_sequential.specs.Seq.{seq_path}
use Rattle.dp_sequential.specs.SeqLaws.{seq_lawful}
use Rattle.dp_sequential.proofs.Rules.{state_put}
use Rattle.dp_sequential.proofs.seq.SeqStateSequential.put_given.Goals as goal

pub returns : goal.returns
returns c = state_put seq seq_path seq_lawful c.args.self.now c.args.values.now c.requires.constants c.requires.size
