use Rattle.net_fields.proofs.Places.{place_of}
use Rattle.net_fields.proofs.laws.law_of_places.Goals as goal

pub returns : goal.returns
returns c = place_of
