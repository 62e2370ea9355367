use Rattle.y86_isa.proofs.WhatIsRead.{IsReading-reading, IsFields-fetched}
use Rattle.y86_isa.proofs.ReadAlike.{fetched-same}
use Rattle.y86_isa.proofs.laws.law_of_reading.Goals as goal

pub returns-clause-same : goal.returns-clause-same
returns-clause-same c = fetched-same

pub returns-clause-reading : goal.returns-clause-reading
returns-clause-reading c = IsReading-reading

pub returns-clause-fields : goal.returns-clause-fields
returns-clause-fields c = IsFields-fetched
