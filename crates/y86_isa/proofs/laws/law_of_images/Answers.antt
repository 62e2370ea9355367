use Rattle.y86_isa.proofs.Purity.{fetched_early}
use Rattle.y86_isa.proofs.Images.{IsImage-run_from, length-run_from, Pure-fewer}
use Rattle.y86_isa.proofs.laws.law_of_images.Goals as goal

pub returns-clause-image : goal.returns-clause-image
returns-clause-image c = IsImage-run_from

pub returns-clause-size : goal.returns-clause-size
returns-clause-size c = length-run_from

pub returns-clause-pure : goal.returns-clause-pure
returns-clause-pure c = Pure-fewer

pub returns-clause-fetch : goal.returns-clause-fetch
returns-clause-fetch c = fetched_early
