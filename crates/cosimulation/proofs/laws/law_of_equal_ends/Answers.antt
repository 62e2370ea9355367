use Rattle.cosimulation.proofs.Ends.{ends_equal}
use Rattle.cosimulation.proofs.laws.law_of_equal_ends.Goals as goal

pub returns : goal.returns
returns c = λ v terms order image limit steps cycles good is. ends_equal v terms order image limit steps cycles good is
