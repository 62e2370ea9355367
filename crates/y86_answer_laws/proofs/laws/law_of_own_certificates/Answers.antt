use Rattle.y86_answer_laws.proofs.Kept.{own_certificates}
use Rattle.y86_answer_laws.proofs.laws.law_of_own_certificates.Goals as goal

pub returns : goal.returns
returns c = own_certificates
