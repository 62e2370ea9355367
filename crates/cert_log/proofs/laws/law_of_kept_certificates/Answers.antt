use Rattle.cert_log.proofs.Shown.{certificates_kept}
use Rattle.cert_log.proofs.laws.law_of_kept_certificates.Goals as goal

pub returns : goal.returns
returns c = certificates_kept
