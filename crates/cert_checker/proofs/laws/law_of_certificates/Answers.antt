use Rattle.cert_checker.proofs.Sound.{certificates_show}
use Rattle.cert_checker.proofs.laws.law_of_certificates.Goals as goal

pub returns : goal.returns
returns c = certificates_show
