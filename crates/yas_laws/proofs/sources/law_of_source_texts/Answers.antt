use Rattle.yas_laws.proofs.TextLemmas.{texts_stand_there}
use Rattle.yas_laws.proofs.sources.law_of_source_texts.Goals as goal

pub returns : goal.returns
returns c = texts_stand_there
