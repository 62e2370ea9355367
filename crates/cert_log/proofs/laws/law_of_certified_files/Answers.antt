use Rattle.cert_log.proofs.Wanted.{certified_hold}
use Rattle.cert_log.proofs.laws.law_of_certified_files.Goals as goal

pub returns : goal.returns
returns c = certified_hold
