use Rattle.pipe_fields.proofs.Told.{start_allowed}
use Rattle.pipe_fields.proofs.laws.law_of_the_start.Goals as goal

pub returns : goal.returns
returns c = start_allowed
