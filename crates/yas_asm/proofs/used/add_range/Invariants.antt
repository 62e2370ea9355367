use Rattle.std.proofs.Common.{◌≡◌, ◌+◌, ◌++◌, false}
use Rattle.std.specs.List.{range_with_len}
use Rattle.yas_asm.specs.Assembly.{overlaps}
use Rattle.yas_asm.proofs.used.add_range.Given as goal

abbrev pub invariant-loop-left : goal.invariant-loop-left
invariant-loop-left l =
    (l.at + l.left ≡ l.address + l.count) × (overlaps l.used l.at l.left ≡ false)
    × (l.used ++ range_with_len l.at l.left ≡ l.initial.used ++ range_with_len l.address l.count)

abbrev pub decreases-loop-left : goal.decreases-loop-left
decreases-loop-left l = l.left
