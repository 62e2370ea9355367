use Rattle.pipe_stage_text.proofs.RowsTell.{each_fetch_is_a_row, each_row_tells}
use Rattle.pipe_stage_text.proofs.laws.law_of_rows.Goals as goal

pub returns-clause-rows : goal.returns-clause-rows
returns-clause-rows c = each_row_tells

pub returns-clause-fetches : goal.returns-clause-fetches
returns-clause-fetches c = each_fetch_is_a_row
