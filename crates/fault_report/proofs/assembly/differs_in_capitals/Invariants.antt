use Rattle.std.proofs.Common.{length}
use Rattle.fault_report.proofs.assembly.differs_in_capitals.Given as goal

abbrev pub decreases-bytes : goal.decreases-bytes
decreases-bytes l = length l.rest
