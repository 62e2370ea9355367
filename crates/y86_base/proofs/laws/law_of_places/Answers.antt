use Rattle.y86_base.proofs.Places.{first_line, later_line}
use Rattle.y86_base.proofs.laws.law_of_places.Goals as goal

pub returns-clause-first_line : goal.returns-clause-first_line
returns-clause-first_line c = first_line

pub returns-clause-later_line : goal.returns-clause-later_line
returns-clause-later_line c = later_line
