use Rattle.std.proofs.Common.{◌≡◌, ◌++◌, length}
use Rattle.hcl_faults.proofs.stop.offset_of.Given as goal

abbrev pub invariant-bytes : goal.invariant-bytes
invariant-bytes l = (l.cursor.done ++ l.cursor.left ≡ l.text) × (length l.cursor.done ≡ l.at)

abbrev pub decreases-bytes : goal.decreases-bytes
decreases-bytes l = length l.cursor.left
