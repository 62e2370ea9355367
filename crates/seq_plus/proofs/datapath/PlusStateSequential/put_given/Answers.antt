use Rattle.dp_sequential.proofs.Rules.{state_put}
use Rattle.seq_plus.specs.PlusNames.{plus}
use Rattle.seq_plus.specs.PlusRun.{plus_path}
use Rattle.seq_plus.specs.PlusLaws.{plus_lawful}
use Rattle.seq_plus.proofs.datapath.PlusStateSequential.put_given.Goals as goal

pub returns : goal.returns
returns c = state_put plus plus_path plus_lawful c.args.self.now c.args.values.now c.requires.constants c.requires.size
