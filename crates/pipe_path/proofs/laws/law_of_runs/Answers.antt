use Rattle.pipe_path.proofs.OneRun.{run_alone, run_there}
use Rattle.pipe_path.proofs.laws.law_of_runs.Goals as goal

pub returns-clause-there : goal.returns-clause-there
returns-clause-there c = λ v terms ids image k bound o. run_there v terms ids bound o image k

pub returns-clause-alone : goal.returns-clause-alone
returns-clause-alone c = λ v terms ids image k bound o p q. run_alone v terms ids bound o image k p q
