use Rattle.std.proofs.Common.{◌≡◌, ◌+◌, ◌≤◌, length}
use Rattle.std.proofs.Math.Seq.{sets}
use Rattle.yo_object.specs.ObjectText as definition
use Rattle.yo_object.proofs.line.put_bytes.Given as goal

abbrev pub invariant-pairs : goal.invariant-pairs
invariant-pairs l =
    (l.size ≡ length l.image) × (l.size ≤ 1048576) × (l.at + length (definition.bytes_of_pairs l.rest) ≤ l.size)
    × (sets l.image l.at (definition.bytes_of_pairs l.rest) ≡ sets l.initial.image l.address (definition.bytes_of_pairs l.digits))

abbrev pub decreases-pairs : goal.decreases-pairs
decreases-pairs l = length l.rest
