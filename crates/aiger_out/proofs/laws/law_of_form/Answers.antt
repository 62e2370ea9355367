use Rattle.aiger_out.proofs.OneAnswer.{not_both, one_fault, one_of}
use Rattle.aiger_out.proofs.laws.law_of_form.Goals as goal

pub returns-clause-some : goal.returns-clause-some
returns-clause-some c = one_of

pub returns-clause-not_both : goal.returns-clause-not_both
returns-clause-not_both c = not_both

pub returns-clause-one_fault : goal.returns-clause-one_fault
returns-clause-one_fault c = one_fault
