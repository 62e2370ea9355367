use Rattle.net_fields.proofs.Patterns.{pattern_of, decoded_range}
use Rattle.net_fields.proofs.laws.law_of_patterns.Goals as goal

pub returns-clause-pattern : goal.returns-clause-pattern
returns-clause-pattern c = pattern_of

pub returns-clause-range : goal.returns-clause-range
returns-clause-range c = decoded_range
