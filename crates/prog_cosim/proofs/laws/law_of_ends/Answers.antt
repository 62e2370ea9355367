use Rattle.prog_cosim.proofs.Refined.{ends_as}
use Rattle.prog_cosim.proofs.laws.law_of_ends.Goals as goal

pub returns : goal.returns
returns c = ends_as
