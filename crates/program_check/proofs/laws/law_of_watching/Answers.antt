use Rattle.program_check.proofs.OneOutcome.{not_near, one_outcome}
use Rattle.program_check.proofs.laws.law_of_watching.Goals as goal

pub returns-clause-one : goal.returns-clause-one
returns-clause-one c = one_outcome

pub returns-clause-not_near : goal.returns-clause-not_near
returns-clause-not_near c = not_near
