use Rattle.yas_asm.proofs.LabelLemmas.{insert_named}
use Rattle.yas_asm.proofs.labels.put.Goals as goal

pub returns : goal.returns
returns c = rw c.in_ok-insert.ensures.entries (insert_named _ _ _ c.requires)
