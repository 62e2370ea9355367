use Rattle.y86_base.proofs.Lines.{HasNoLineFeed-lines, lines-rejoin, lines-with_line_feeds, lines-with_last}
use Rattle.y86_base.proofs.laws.law_of_lines.Goals as goal

pub returns-clause-no_line_feed : goal.returns-clause-no_line_feed
returns-clause-no_line_feed c = HasNoLineFeed-lines

pub returns-clause-again : goal.returns-clause-again
returns-clause-again c = lines-rejoin

pub returns-clause-ended : goal.returns-clause-ended
returns-clause-ended c = lines-with_line_feeds

pub returns-clause-last : goal.returns-clause-last
returns-clause-last c = lines-with_last
