use Rattle.seq_path.proofs.Runs.{solution_alone, solution_there}
use Rattle.seq_path.proofs.laws.law_of_solutions.Goals as goal

pub returns-clause-there : goal.returns-clause-there
returns-clause-there c = solution_there

pub returns-clause-alone : goal.returns-clause-alone
returns-clause-alone c = solution_alone
