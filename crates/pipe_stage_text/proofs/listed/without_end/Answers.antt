use Rattle.std.proofs.Common.{◌∙◌}
use Rattle.pipe_stage_text.proofs.Trimmed.{cut_end}
use Rattle.pipe_stage_text.proofs.listed.without_end.Goals as goal

pub returns : goal.returns
returns c = c.split_at.ensures.front ∙ cut_end _ _ c.blanks_at_end.ensures.count
