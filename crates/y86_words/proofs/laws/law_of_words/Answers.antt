use Rattle.y86_words.proofs.Legal.{form_legal}
use Rattle.y86_words.proofs.Order.{any_order}
use Rattle.y86_words.proofs.Wording.{legal_written, defaults_hold, has_form}
use Rattle.y86_words.proofs.laws.law_of_words.Goals as goal

pub returns-clause-legal : goal.returns-clause-legal
returns-clause-legal c = form_legal

pub returns-clause-written : goal.returns-clause-written
returns-clause-written c = legal_written

pub returns-clause-of_a_row : goal.returns-clause-of_a_row
returns-clause-of_a_row c = has_form

pub returns-clause-order : goal.returns-clause-order
returns-clause-order c = any_order

pub returns-clause-defaults : goal.returns-clause-defaults
returns-clause-defaults c = defaults_hold
