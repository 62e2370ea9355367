use Rattle.std.proofs.Common.{sym}
use Rattle.hcl_types.specs.Terms.{at}
use Rattle.dp_sequential.proofs.machine.SequentialMachine.pc.Goals as goal

pub returns-clause-pc : goal.returns-clause-pc
returns-clause-pc g c = rw (← c.self.view_is) (at c.solve_in.new.values, c.solve_in.ensures.solves, sym c.pc.ensures)
