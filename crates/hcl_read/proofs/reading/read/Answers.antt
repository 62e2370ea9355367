use Rattle.hcl_read.proofs.Readings.{found, gives_found, gives_fault}
use Rattle.hcl_read.proofs.reading.read.Goals as goal

pub returns-in-Ok-clause-found : goal.returns-in-Ok-clause-found
returns-in-Ok-clause-found c = found c.args.bytes.now c.in-Ok.file c.in-Ok.ensures.file

pub returns-in-Ok-clause-only : goal.returns-in-Ok-clause-only
returns-in-Ok-clause-only c = gives_found c.args.bytes.now c.in-Ok.file c.in-Ok.ensures.file

pub returns-in-Err-clause-only : goal.returns-in-Err-clause-only
returns-in-Err-clause-only c = gives_fault c.args.bytes.now c.fault.result c.fault.ensures
