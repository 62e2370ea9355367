use Rattle.pipe_stage_text.proofs.Changes.{each_cycle_tells_changes}
use Rattle.pipe_stage_text.proofs.laws.law_of_changes.Goals as goal

pub returns : goal.returns
returns c = each_cycle_tells_changes
