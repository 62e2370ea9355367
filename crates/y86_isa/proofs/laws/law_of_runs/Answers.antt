use Rattle.y86_isa.proofs.Runs.{run_from-none, run_from-more, run_from-last, run_from-stopped, is_aok-from_not}
use Rattle.y86_isa.proofs.laws.law_of_runs.Goals as goal

pub returns-clause-no_step : goal.returns-clause-no_step
returns-clause-no_step c = run_from-none

pub returns-clause-one_more : goal.returns-clause-one_more
returns-clause-one_more c = run_from-more

pub returns-clause-last : goal.returns-clause-last
returns-clause-last c = run_from-last

pub returns-clause-stopped : goal.returns-clause-stopped
returns-clause-stopped c = λ v m n h. run_from-stopped v m n (is_aok-from_not m.stat h)
