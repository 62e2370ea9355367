use Rattle.aiger_out.proofs.OneAnswer.{one_solution}
use Rattle.aiger_out.proofs.laws.law_of_values.Goals as goal

pub returns : goal.returns
returns c = one_solution
