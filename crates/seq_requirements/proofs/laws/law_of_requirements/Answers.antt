use Rattle.seq_requirements.proofs.ByRequirements.{by_requirements}
use Rattle.seq_requirements.proofs.laws.law_of_requirements.Goals as goal

pub returns : goal.returns
returns c = λ which v xs α cv i. by_requirements α cv which v xs i
