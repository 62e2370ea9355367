use Rattle.std.proofs.Common.{◌∙◌}
use Rattle.yas_asm.proofs.LabelLemmas.{lookup_named}
use Rattle.yas_asm.proofs.labels.find.Goals as goal

pub returns : goal.returns
returns c = c.copied.ensures ∙ c.get.ensures.value ∙ lookup_named c.args.table.now.entries c.args.name.now
