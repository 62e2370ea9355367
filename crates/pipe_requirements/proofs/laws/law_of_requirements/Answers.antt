use Rattle.pipe_requirements.proofs.ByRequirements.{by_requirements}
use Rattle.pipe_requirements.proofs.laws.law_of_requirements.Goals as goal

pub returns : goal.returns
returns c = by_requirements
