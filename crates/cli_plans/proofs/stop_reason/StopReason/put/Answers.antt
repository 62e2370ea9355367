use Rattle.wb_io.proofs.Writes.{took_nothing}
use Rattle.cli_plans.proofs.stop_reason.StopReason.put.Goals as goal

pub returns-in-Usage-clause-puts : goal.returns-in-Usage-clause-puts
returns-in-Usage-clause-puts g c = rw c.in-Usage.is c.put_all.ensures.puts

pub returns-in-Write-clause-puts : goal.returns-in-Write-clause-puts
returns-in-Write-clause-puts g c = rw c.in-Write.is (took_nothing _)

pub returns-in-Memory-clause-puts : goal.returns-in-Memory-clause-puts
returns-in-Memory-clause-puts g c = rw c.in-Memory.is c.put_all-in-Memory.ensures.puts
