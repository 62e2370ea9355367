use Rattle.std.proofs.Common.{◌≡◌, length}
use Rattle.fault_report.specs.ObjectBytes.{puts_bytes}
use Rattle.fault_report.proofs.object.has_bytes.Given as goal

abbrev pub invariant-lines : goal.invariant-lines
invariant-lines l = puts_bytes l.rest ≡ puts_bytes l.text

abbrev pub decreases-lines : goal.decreases-lines
decreases-lines l = length l.rest
