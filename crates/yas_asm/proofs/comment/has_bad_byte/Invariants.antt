use Rattle.std.proofs.Common.{◌≡◌, false, length, drop}
use Rattle.yas_asm.specs.Comments.{close_length, bad_outside}
use Rattle.yas_asm.proofs.comment.has_bad_byte.Given as goal

abbrev pub invariant-loop-first : goal.invariant-loop-first
invariant-loop-first l =
    (bad_outside 0 l.rest ≡ bad_outside 0 l.line) × (l.closes ≡ false → close_length (drop 2 l.rest) ≡ 0)

abbrev pub decreases-loop-first : goal.decreases-loop-first
decreases-loop-first l = length l.rest
