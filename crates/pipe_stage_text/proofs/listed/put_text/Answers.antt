use Rattle.pipe_stage_text.proofs.Listings.{put_one}
use Rattle.pipe_stage_text.proofs.listed.put_text.Goals as goal

pub returns-in-Ok-insert : goal.returns-in-Ok-insert
returns-in-Ok-insert c = put_one _ _ _ _ _ c.in-Ok-insert.ensures.updates.0 c.in-Ok.ensures.items
