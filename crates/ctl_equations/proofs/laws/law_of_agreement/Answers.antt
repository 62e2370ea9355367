use Rattle.ctl_equations.proofs.Solved.{agreement}
use Rattle.ctl_equations.proofs.laws.law_of_agreement.Goals as goal

pub returns : goal.returns
returns c = agreement
