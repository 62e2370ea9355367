use Rattle.std.proofs.Common.{refl}
use Rattle.dp_sequential.proofs.machine.SequentialMachine.end.Goals as goal

pub returns : goal.returns
returns g c = (c.args.pc, c.requires, rw (← c.self.view_is) c.view.ensures.whole)
