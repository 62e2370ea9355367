use Rattle.hcl_laws.proofs.Atoms.{atoms_or_reason, mixed_has_no_atoms, mixed_is_not_over, one_list, one_mixed, over_has_no_atoms}
use Rattle.hcl_laws.proofs.laws.law_of_atoms.Goals as goal

pub returns-clause-some : goal.returns-clause-some
returns-clause-some c = λ rows terms ids o. atoms_or_reason rows terms ids o

pub returns-clause-one : goal.returns-clause-one
returns-clause-one c = λ rows terms ids o a b h k. one_list rows terms ids o a b h k

pub returns-clause-mixed : goal.returns-clause-mixed
returns-clause-mixed c = λ rows terms m n h k. one_mixed rows terms m n h k

pub returns-clause-mixed_or_atoms : goal.returns-clause-mixed_or_atoms
returns-clause-mixed_or_atoms c = λ rows terms n a h k. mixed_has_no_atoms rows terms n a h k

pub returns-clause-mixed_or_over : goal.returns-clause-mixed_or_over
returns-clause-mixed_or_over c = λ rows terms n h k. mixed_is_not_over rows terms n h k

pub returns-clause-over_or_atoms : goal.returns-clause-over_or_atoms
returns-clause-over_or_atoms c = λ rows terms ids o a h k. over_has_no_atoms rows terms ids o a h k
