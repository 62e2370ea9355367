use Rattle.std.proofs.Common.{length}
use Rattle.fault_report.proofs.hcl_reading.related_places.Given as goal

abbrev pub decreases-brackets : goal.decreases-brackets
decreases-brackets l = length l.rest
