use Rattle.wb_io.proofs.Writes.{counts_behind, puts_after}
use Rattle.cli_runs.proofs.psim.put_end.Goals as goal

pub returns-clause-puts : goal.returns-clause-puts
returns-clause-puts g c = puts_after _ _ _ _ _ _ c.in_ok-put_ran.ensures.puts c.report.ensures.puts

pub returns-clause-counts : goal.returns-clause-counts
returns-clause-counts g c = counts_behind _ _ _ _ c.in_ok-put_ran.ensures.counts.no_fault_at_ok c.report.ensures.counts
