use Rattle.std.proofs.Common.{◌≡◌, ◌+◌}
use Rattle.yas_asm.specs.Assembly.{overlaps}
use Rattle.yas_asm.proofs.used.overlaps.Given as goal

abbrev pub invariant-loop-left : goal.invariant-loop-left
invariant-loop-left l =
    (l.at + l.left ≡ l.address + l.count) × (overlaps l.used l.at l.left ≡ overlaps l.used l.address l.count)

abbrev pub decreases-loop-left : goal.decreases-loop-left
decreases-loop-left l = l.left
