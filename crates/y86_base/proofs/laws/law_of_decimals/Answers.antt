use Rattle.y86_base.proofs.Decimals.{decimal_is}
use Rattle.y86_base.proofs.laws.law_of_decimals.Goals as goal

pub returns : goal.returns
returns c = decimal_is
