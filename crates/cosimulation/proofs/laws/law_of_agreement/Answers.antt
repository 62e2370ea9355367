use Rattle.cosimulation.proofs.Agree.{finds_none}
use Rattle.cosimulation.proofs.laws.law_of_agreement.Goals as goal

pub returns : goal.returns
returns c = λ v terms order image limit outcome refines is. finds_none v terms order image refines limit outcome is
