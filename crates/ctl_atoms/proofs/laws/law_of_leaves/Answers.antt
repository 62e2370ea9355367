use Rattle.ctl_atoms.proofs.Solved.{leaves_exist, leaves_one}
use Rattle.ctl_atoms.proofs.laws.law_of_leaves.Goals as goal

pub returns-clause-some : goal.returns-clause-some
returns-clause-some c = λ rows terms ids o. leaves_exist rows terms ids o

pub returns-clause-one : goal.returns-clause-one
returns-clause-one c = λ rows terms ids o f g p q n i. leaves_one rows terms ids o f g p q i n
