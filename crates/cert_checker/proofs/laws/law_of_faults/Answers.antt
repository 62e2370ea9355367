use Rattle.cert_checker.proofs.Unique.{faults_are_first}
use Rattle.cert_checker.proofs.laws.law_of_faults.Goals as goal

pub returns : goal.returns
returns c = faults_are_first
