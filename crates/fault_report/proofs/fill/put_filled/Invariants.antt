use Rattle.std.proofs.Common.{length}
use Rattle.fault_report.proofs.fill.put_filled.Given as goal

abbrev pub decreases-parts : goal.decreases-parts
decreases-parts l = length l.rest
