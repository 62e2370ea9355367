use Rattle.prog_laws.proofs.Drawn.{drawn_allowed, go_on}
use Rattle.prog_laws.proofs.laws.law_of_draws.Goals as goal

pub returns-clause-drawn : goal.returns-clause-drawn
returns-clause-drawn c = drawn_allowed

pub returns-clause-choices : goal.returns-clause-choices
returns-clause-choices c = go_on
