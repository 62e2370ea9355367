use Rattle.pipe_stage_text.specs.Cycle.{fetch_source}
use Rattle.pipe_stage_text.proofs.cycle.put_fetch_source.Goals as goal

pub returns : goal.returns
unfolding fetch_source
returns c = c.put_text_pair.ensures
