use Rattle.hcl_binding.proofs.Faulted.{bound_tells}
use Rattle.hcl_binding.proofs.laws.law_of_faults.Goals as goal

pub returns : goal.returns
returns c = λ rows items e sound h. bound_tells rows sound.apart items e h
