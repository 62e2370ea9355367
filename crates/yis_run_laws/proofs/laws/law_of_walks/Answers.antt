use Rattle.yis_run_laws.proofs.laws.law_of_walks.Goals as goal
use Rattle.yis_run_laws.proofs.Walks.{walks}

pub returns : goal.returns
returns c = walks
