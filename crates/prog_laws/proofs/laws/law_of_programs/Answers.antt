use Rattle.prog_laws.proofs.FirstBytes.{begins_1, begins_2, begins_5, begins_7}
use Rattle.prog_laws.proofs.Images.{has_data}
use Rattle.prog_laws.proofs.Whole.{runs, keeps, pure}
use Rattle.prog_laws.proofs.laws.law_of_programs.Goals as goal

pub returns-clause-data : goal.returns-clause-data
returns-clause-data c n least most = has_data n

pub returns-clause-run : goal.returns-clause-run
returns-clause-run c = runs

pub returns-clause-code : goal.returns-clause-code
returns-clause-code c = keeps

pub returns-clause-pure : goal.returns-clause-pure
returns-clause-pure c = pure

pub returns-clause-first : goal.returns-clause-first
returns-clause-first c = begins_1

pub returns-clause-second : goal.returns-clause-second
returns-clause-second c = begins_2

pub returns-clause-fifth : goal.returns-clause-fifth
returns-clause-fifth c = begins_5

pub returns-clause-seventh : goal.returns-clause-seventh
returns-clause-seventh c = begins_7
