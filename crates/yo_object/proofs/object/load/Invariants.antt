use Rattle.std.proofs.Common.{◌≡◌, ◌+◌, ◌≤◌, length}
use Rattle.y86_base.specs.Text.{lines}
use Rattle.yo_object.specs.ObjectText.{put_lines, object_of}
use Rattle.yo_object.proofs.object.load.Given as goal

abbrev pub invariant-loop-line : goal.invariant-loop-line
invariant-loop-line l =
    (put_lines l.number l.image (lines l.rest) ≡ object_of l.bytes l.size) × (l.number + length l.rest ≤ 1 + length l.bytes)

abbrev pub decreases-loop-line : goal.decreases-loop-line
decreases-loop-line l = length l.rest
