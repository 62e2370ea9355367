use Rattle.hcl_laws.proofs.Cycles.{one_first_cycle}
use Rattle.hcl_laws.proofs.laws.law_of_cycles.Goals as goal

pub returns : goal.returns
returns c = λ needs a b h k. one_first_cycle needs a b h k
