use Rattle.cli_plans.specs.Lines.{fault_line}
use Rattle.cli_plans.proofs.stop_reason.put_fault.Goals as goal

pub returns-clause-puts : goal.returns-clause-puts
unfolding fault_line
returns-clause-puts g c = rw (c.as_bytes.ensures, c.decimal-line.ensures.text) at c.put_pieces.ensures.puts
