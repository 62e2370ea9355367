use Rattle.cli_plans.specs.Lines.{read_fault_line}
use Rattle.cli_plans.proofs.stop_reason.put_read_fault.Goals as goal

pub returns-clause-puts : goal.returns-clause-puts
unfolding read_fault_line
returns-clause-puts g c = rw c.as_bytes.ensures.value at c.put_pieces.ensures.puts
