use Rattle.y86_isa.proofs.Records.{records-at}
use Rattle.y86_isa.specs.Machine.{is_aok}
use Rattle.std.proofs.Common.{ap}
use Rattle.y86_isa.proofs.Runs.{records_from-none, records_from-more, records_from-last, records_from-stopped, is_aok-from_not, length-records_from, stopped-from_few}
use Rattle.y86_isa.proofs.Images.{not_aok-from_false}
use Rattle.y86_isa.proofs.laws.law_of_records.Goals as goal

pub returns-clause-no_step : goal.returns-clause-no_step
returns-clause-no_step c = records_from-none

pub returns-clause-one_more : goal.returns-clause-one_more
returns-clause-one_more c = records_from-more

pub returns-clause-last : goal.returns-clause-last
returns-clause-last c = records_from-last

pub returns-clause-stopped : goal.returns-clause-stopped
returns-clause-stopped c = λ v m n h. records_from-stopped v m n (is_aok-from_not m.stat h)

pub returns-clause-at_most : goal.returns-clause-at_most
returns-clause-at_most c = length-records_from

pub returns-clause-fewer : goal.returns-clause-fewer
returns-clause-fewer c = λ v m n h. not_aok-from_false _ (stopped-from_few v m n h)

pub returns-clause-at : goal.returns-clause-at
returns-clause-at c = λ v m n i lt h. records-at v m n i lt (ap is_aok h)
