use Rattle.aiger_out.proofs.ReadBack.{no_error, reads_back, same_truths}
use Rattle.aiger_out.proofs.laws.law_of_reading_back.Goals as goal

pub returns-clause-form : goal.returns-clause-form
returns-clause-form c = reads_back

pub returns-clause-no_fault : goal.returns-clause-no_fault
returns-clause-no_fault c = no_error

pub returns-clause-truths : goal.returns-clause-truths
returns-clause-truths c = same_truths
