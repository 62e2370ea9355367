use Rattle.hcl_faults.proofs.PlaceLemmas.{index_is_of_front}
use Rattle.hcl_faults.proofs.stop.law_of_fronts.Goals as goal

pub returns : goal.returns
returns c = index_is_of_front
