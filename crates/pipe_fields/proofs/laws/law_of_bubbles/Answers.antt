use Rattle.pipe_fields.proofs.Told.{no_registers}
use Rattle.pipe_fields.proofs.laws.law_of_bubbles.Goals as goal

pub returns : goal.returns
returns c = no_registers
