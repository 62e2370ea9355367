use Rattle.yas_laws.proofs.SpacingLaw.{spacing_is_free}
use Rattle.yas_laws.proofs.sources.law_of_spacing.Goals as goal

pub returns : goal.returns
returns c = spacing_is_free
