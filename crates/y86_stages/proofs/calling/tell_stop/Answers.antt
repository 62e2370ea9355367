use Rattle.cli_plans.proofs.Told.{told_part}
use Rattle.y86_stages.proofs.calling.tell_stop.Goals as goal

pub returns-in-Err-clause-line : goal.returns-in-Err-clause-line
returns-in-Err-clause-line g c = rw c.in-Usage.is (told_part _ _ _ c.in-Err.ensures.puts c.in-Err.ensures.counts.one_fault_at_err)
