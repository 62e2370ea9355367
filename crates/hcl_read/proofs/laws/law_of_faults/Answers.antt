use Rattle.hcl_read.proofs.LawLemmas.{file_or_fault}
use Rattle.hcl_read.proofs.OneFault.{file_has_no_fault, one_fault}
use Rattle.hcl_read.proofs.laws.law_of_faults.Goals as goal

pub returns-clause-either : goal.returns-clause-either
returns-clause-either c = file_or_fault

pub returns-clause-not_both : goal.returns-clause-not_both
returns-clause-not_both c = file_has_no_fault

pub returns-clause-one : goal.returns-clause-one
returns-clause-one c = one_fault
