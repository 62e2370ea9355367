use Rattle.std.proofs.Common.{◌≡◌, ◌++◌, length}
use Rattle.hcl_read.proofs.reading.place.Given as goal

abbrev pub invariant-bytes : goal.invariant-bytes
invariant-bytes l = l.cursor.done ++ l.cursor.left ≡ l.before

abbrev pub decreases-bytes : goal.decreases-bytes
decreases-bytes l = length l.cursor.left
