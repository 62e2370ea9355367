use Rattle.pipe_fields.proofs.Told.{has_pattern, in_range}
use Rattle.pipe_fields.proofs.laws.law_of_patterns.Goals as goal

pub returns-clause-pattern : goal.returns-clause-pattern
returns-clause-pattern c = has_pattern

pub returns-clause-range : goal.returns-clause-range
returns-clause-range c = in_range
