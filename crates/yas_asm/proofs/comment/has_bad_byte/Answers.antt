use Rattle.std.proofs.Common.{◌∙◌}
use Rattle.yas_asm.proofs.CommentLemmas.{plain_bad, plain_good}
use Rattle.yas_asm.proofs.comment.has_bad_byte.Goals as goal

pub returns-else-is_good : goal.returns-else-is_good
returns-else-is_good c =
    let h = c.in-Some.ensures.cases in
    plain_bad _ _ _ _ _ c.known_length-length.ensures.count c.if-length-gt0.false h.0 c.is_good.ensures c.if-is_good.false
    ∙ c.loop-first.invariant.0

pub loop-first-preserved : goal.loop-first-preserved
loop-first-preserved c =
    let h = c.in-Some.ensures.cases in (
      plain_good _ _ _ _ _ c.known_length-length.ensures.count c.if-length-gt0.false h.0 c.is_good.ensures c.if-is_good.true
          ∙ c.loop-first.invariant.0,
      λ e. rw h.0 at (c.still_closes-closes.ensures e),
    )
