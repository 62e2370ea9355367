use Rattle.y86_base.proofs.Runs.{run_is}
use Rattle.y86_base.proofs.laws.law_of_runs.Goals as goal

pub returns : goal.returns
returns c = run_is
