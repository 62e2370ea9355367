use Rattle.y86_isa.proofs.Words.{IsMachine-start, IsMachine-run_from, FitsFields-fetched}
use Rattle.y86_isa.proofs.laws.law_of_machines.Goals as goal

pub returns-clause-start : goal.returns-clause-start
returns-clause-start c = IsMachine-start

pub returns-clause-run : goal.returns-clause-run
returns-clause-run c = IsMachine-run_from

pub returns-clause-fetched : goal.returns-clause-fetched
returns-clause-fetched c = FitsFields-fetched
