use Rattle.y86_call_laws.proofs.Bigs.{told_same}
use Rattle.y86_call_laws.proofs.laws.law_of_big.Goals as goal

pub returns : goal.returns
returns c = told_same
