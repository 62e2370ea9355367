use Rattle.std.proofs.Common.{length}
use Rattle.fault_report.proofs.object.statement_line.Given as goal

abbrev pub decreases-lines : goal.decreases-lines
decreases-lines l = length l.rest
