use Rattle.cert_log.proofs.Wanted.{certified_refine}
use Rattle.cert_log.proofs.laws.law_of_certified_refinement.Goals as goal

pub returns : goal.returns
returns c = certified_refine
