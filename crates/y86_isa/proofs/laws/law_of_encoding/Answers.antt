use Rattle.y86_isa.proofs.ReadBack.{fetched-encoded, length-encoded}
use Rattle.y86_isa.proofs.laws.law_of_encoding.Goals as goal

pub returns-clause-length : goal.returns-clause-length
returns-clause-length c = length-encoded

pub returns-clause-read_back : goal.returns-clause-read_back
returns-clause-read_back c = fetched-encoded
