use Rattle.std.proofs.Common.{Ok, ap, sym, ◌∙◌}
use Rattle.yas_asm.specs.Assembly.{assembled}
use Rattle.yas_asm.proofs.assembler.assemble.Goals as goal

pub returns-in-Err-clause-lines : goal.returns-in-Err-clause-lines
unfolding assembled
returns-in-Err-clause-lines c = rw c.in-Ok.ensures at c.in-Err.ensures

pub returns-clause-lines : goal.returns-clause-lines
unfolding assembled
returns-clause-lines c = (rw c.in-Ok.ensures at c.in-Ok-emit.ensures) ∙ ap Ok (sym c.new.ensures.lines)
