use Rattle.y86_isa.specs.Machine.{start}
use Rattle.seq_path.proofs.Runs.{run_alone, run_there}
use Rattle.seq_path.proofs.laws.law_of_runs.Goals as goal

pub returns-clause-there : goal.returns-clause-there
returns-clause-there c = λ v terms ids image k bound o. run_there v terms ids bound o (start image) k

pub returns-clause-alone : goal.returns-clause-alone
returns-clause-alone c = λ v terms ids image k bound o t u rs xs. run_alone v terms ids bound o (start image) k t u rs xs
