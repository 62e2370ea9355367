use Rattle.ctl_atoms.proofs.Listed.{apart, listed}
use Rattle.ctl_atoms.proofs.laws.law_of_atoms.Goals as goal

pub returns-clause-apart : goal.returns-clause-apart
returns-clause-apart c = λ leaves terms. apart leaves terms

pub returns-clause-listed : goal.returns-clause-listed
returns-clause-listed c = λ leaves terms. listed leaves terms
