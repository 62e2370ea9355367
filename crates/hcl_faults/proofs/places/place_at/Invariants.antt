use Rattle.std.proofs.Common.{◌≡◌, ◌++◌, length, take}
use Rattle.hcl_faults.proofs.places.place_at.Given as goal

abbrev pub invariant-bytes : goal.invariant-bytes
invariant-bytes l = l.cursor.done ++ l.cursor.left ≡ take l.at l.text

abbrev pub decreases-bytes : goal.decreases-bytes
decreases-bytes l = length l.cursor.left
