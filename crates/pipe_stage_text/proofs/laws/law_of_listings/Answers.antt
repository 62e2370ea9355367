use Rattle.pipe_stage_text.proofs.ListedLines.{lists_by_form}
use Rattle.pipe_stage_text.proofs.Listings.{last_line_counts, none_is_listed}
use Rattle.pipe_stage_text.proofs.laws.law_of_listings.Goals as goal

pub returns-clause-form : goal.returns-clause-form
returns-clause-form c = lists_by_form

pub returns-clause-last : goal.returns-clause-last
returns-clause-last c = last_line_counts

pub returns-clause-none : goal.returns-clause-none
returns-clause-none c = none_is_listed
