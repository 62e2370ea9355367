use Rattle.yas_laws.proofs.FaultLemmas.{lines_follow}
use Rattle.yas_laws.proofs.sources.law_of_source_lines.Goals as goal

pub returns : goal.returns
returns c = lines_follow
