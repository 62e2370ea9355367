use Rattle.y86_answer_laws.proofs.Commands.{told_alike}
use Rattle.y86_answer_laws.proofs.laws.law_of_calls.Goals as goal

pub returns : goal.returns
returns c = told_alike
