use Rattle.std.proofs.Common.{length}
use Rattle.fault_report.proofs.binding_faults.needs_text.Given as goal

abbrev pub decreases-ids : goal.decreases-ids
decreases-ids l = length l.rest
