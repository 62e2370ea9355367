use Rattle.cert_checker.proofs.Unique.{others_refuse_by_gates}
use Rattle.cert_checker.proofs.laws.law_of_other_nets.Goals as goal

pub returns : goal.returns
returns c = others_refuse_by_gates
