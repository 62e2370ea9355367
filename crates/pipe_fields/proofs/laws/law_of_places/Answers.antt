use Rattle.pipe_fields.proofs.Told.{has_place}
use Rattle.pipe_fields.proofs.laws.law_of_places.Goals as goal

pub returns : goal.returns
returns c = has_place
