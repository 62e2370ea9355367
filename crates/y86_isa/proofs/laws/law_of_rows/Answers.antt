use Rattle.y86_isa.proofs.Rows.{row-widest}
use Rattle.y86_isa.proofs.Rows.{row-test, row-unknown, row-length}
use Rattle.y86_isa.proofs.laws.law_of_rows.Goals as goal

pub returns-clause-every : goal.returns-clause-every
returns-clause-every c = λ p v icode all dashes. row-test p v all dashes icode

pub returns-clause-unknown : goal.returns-clause-unknown
returns-clause-unknown c = row-unknown

pub returns-clause-length : goal.returns-clause-length
returns-clause-length c = row-length

pub returns-clause-widest : goal.returns-clause-widest
returns-clause-widest c = row-widest
