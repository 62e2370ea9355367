use Rattle.seq_plus.proofs.OneRun.{solution_there}
use Rattle.seq_plus.proofs.OneRun.{plus_unique}
use Rattle.seq_plus.proofs.laws.law_of_solutions.Goals as goal

pub returns-clause-there : goal.returns-clause-there
returns-clause-there c = solution_there

pub returns-clause-alone : goal.returns-clause-alone
returns-clause-alone c = plus_unique
