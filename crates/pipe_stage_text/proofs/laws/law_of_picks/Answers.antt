use Rattle.pipe_stage_text.proofs.Picks.{pc_source, picks_by_terms, picks_the_value, val_a_source, val_b_source}
use Rattle.pipe_stage_text.proofs.laws.law_of_picks.Goals as goal

pub returns-clause-by_terms : goal.returns-clause-by_terms
returns-clause-by_terms c = picks_by_terms

pub returns-clause-value : goal.returns-clause-value
returns-clause-value c = picks_the_value

pub returns-clause-pc : goal.returns-clause-pc
returns-clause-pc c = pc_source

pub returns-clause-val_a : goal.returns-clause-val_a
returns-clause-val_a c = val_a_source

pub returns-clause-val_b : goal.returns-clause-val_b
returns-clause-val_b c = val_b_source
