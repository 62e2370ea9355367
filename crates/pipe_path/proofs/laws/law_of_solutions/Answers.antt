use Rattle.pipe_path.proofs.OneRun.{solution_there}
use Rattle.pipe_path.proofs.laws.law_of_solutions.Goals as goal

pub returns : goal.returns
returns c = solution_there
