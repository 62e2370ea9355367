use Rattle.std.proofs.Common.{sym, ◌∙◌, inr, ap, arith}
use Rattle.y86_base.specs.Text.{lines}
use Rattle.yo_object.proofs.Texts.{text_start, text_end, text_more, text_fault}
use Rattle.yo_object.proofs.object.load.Goals as goal

pub loop-line-init : goal.loop-line-init
loop-line-init c = (rw c.in-Ok.ensures.zeros (text_start _ _), omega arith)

pub loop-line-preserved : goal.loop-line-preserved
loop-line-preserved c =
    (sym (text_more _ _ _ _ _ _ c.in-Some.ensures.lines c.in-Ok-put_line.ensures) ∙ c.loop-line.invariant.0, omega (arith, c.in-Some.ensures.shorter))

pub returns-in-Err-put_line-clause-fault : goal.returns-in-Err-put_line-clause-fault
returns-in-Err-put_line-clause-fault c =
    inr (sym c.loop-line.invariant.0 ∙ text_fault _ _ _ _ _ _ c.in-Some.ensures.lines c.in-Err-put_line.ensures)

pub returns-clause-image : goal.returns-clause-image
returns-clause-image c = sym c.loop-line.invariant.0 ∙ text_end _ _ _ (ap lines c.in_default.ensures.lines)
