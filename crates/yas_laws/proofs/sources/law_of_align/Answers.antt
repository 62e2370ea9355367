use Rattle.yas_laws.proofs.TextLemmas.{align_is_least}
use Rattle.yas_laws.proofs.sources.law_of_align.Goals as goal

pub returns : goal.returns
returns c = align_is_least
