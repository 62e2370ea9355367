use Rattle.y86_base.proofs.Numerals.{numeral_digits, numeral_lower, numeral_no_wider, numeral_value, numeral_width, word_has_room}
use Rattle.y86_base.proofs.laws.law_of_numerals.Goals as goal

pub returns-clause-numeral : goal.returns-clause-numeral
returns-clause-numeral c = λ base least n low high small. numeral_digits base least n low high (word_has_room base n low small)

pub returns-clause-lower_case : goal.returns-clause-lower_case
returns-clause-lower_case c = λ base least n low high small. numeral_lower base least n low high

pub returns-clause-value : goal.returns-clause-value
returns-clause-value c = λ base least n low high small. numeral_value base least n low high (word_has_room base n low small)

pub returns-clause-width : goal.returns-clause-width
returns-clause-width c = numeral_width

pub returns-clause-no_wider : goal.returns-clause-no_wider
returns-clause-no_wider c = λ base least n low high small. numeral_no_wider base least n low (word_has_room base n low small)
