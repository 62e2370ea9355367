use Rattle.std.proofs.Common.{◌≡◌, ◌+◌, ◌==◌, if◌then◌else◌, length}
use Rattle.yas_asm.specs.Comments.{close_length}
use Rattle.yas_asm.proofs.comment.close_length.Given as goal

abbrev pub invariant-loop-others : goal.invariant-loop-others
invariant-loop-others l =
    (l.passed + length l.rest ≡ length l.text)
    × (close_length l.text ≡ (if close_length l.rest == 0 then 0 else l.passed + close_length l.rest))

abbrev pub decreases-loop-others : goal.decreases-loop-others
decreases-loop-others l = length l.rest
