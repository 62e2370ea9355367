use Rattle.yas_language.proofs.Lines.{reads_the_language}
use Rattle.yas_language.proofs.laws.law_of_language.Goals as goal

pub returns : goal.returns
returns c = reads_the_language
