use Rattle.cert_log.proofs.Wanted.{demands_tell}
use Rattle.cert_log.proofs.laws.law_of_demands.Goals as goal

pub returns : goal.returns
returns c = demands_tell
