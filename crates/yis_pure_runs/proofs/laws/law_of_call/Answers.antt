use Rattle.yis_pure_runs.specs.Purity.{call_image}
use Rattle.yis_pure_runs.proofs.Calls.{call_apart, call_begins, call_is_image, call_size, called, halted, returned}
use Rattle.yis_pure_runs.proofs.Purity.{pure_apart}
use Rattle.yis_pure_runs.proofs.laws.law_of_call.Goals as goal

pub returns-clause-image : goal.returns-clause-image
returns-clause-image c = call_is_image

pub returns-clause-size : goal.returns-clause-size
returns-clause-size c = call_size

pub returns-clause-extends : goal.returns-clause-extends
returns-clause-extends c = call_begins

pub returns-clause-calls : goal.returns-clause-calls
returns-clause-calls c = called

pub returns-clause-returns : goal.returns-clause-returns
returns-clause-returns c = returned

pub returns-clause-halts : goal.returns-clause-halts
returns-clause-halts c = halted

pub returns-clause-apart : goal.returns-clause-apart
returns-clause-apart c = call_apart

pub returns-clause-pure : goal.returns-clause-pure
returns-clause-pure c = λ v n. pure_apart v call_image n (call_apart v n)
