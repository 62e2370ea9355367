use Rattle.yas_laws.proofs.SweepLaw.{close_is_first, sweep_passes_comments}
use Rattle.yas_laws.proofs.sources.law_of_comments.Goals as goal

pub returns : goal.returns
returns c = record { close = close_is_first; sweep = sweep_passes_comments }
