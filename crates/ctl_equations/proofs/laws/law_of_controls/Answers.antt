use Rattle.ctl_equations.proofs.Solved.{controls_exist, controls_unique}
use Rattle.ctl_equations.proofs.laws.law_of_controls.Goals as goal

pub returns-clause-exist : goal.returns-clause-exist
returns-clause-exist c = controls_exist

pub returns-clause-unique : goal.returns-clause-unique
returns-clause-unique c = controls_unique
