use Rattle.prog_cosim.proofs.Refined.{runs_alike}
use Rattle.prog_cosim.proofs.laws.law_of_cosimulation.Goals as goal

pub returns : goal.returns
returns c = runs_alike
