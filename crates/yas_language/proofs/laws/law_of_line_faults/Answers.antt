use Rattle.yas_language.proofs.Faults.{accepts_the_language, tells_bad_bytes, tells_syntax, tells_wide_numbers}
use Rattle.yas_language.proofs.laws.law_of_line_faults.Goals as goal

pub returns-clause-accepted : goal.returns-clause-accepted
returns-clause-accepted c = accepts_the_language

pub returns-clause-bad_byte : goal.returns-clause-bad_byte
returns-clause-bad_byte c = tells_bad_bytes

pub returns-clause-syntax : goal.returns-clause-syntax
returns-clause-syntax c = tells_syntax

pub returns-clause-too_wide : goal.returns-clause-too_wide
returns-clause-too_wide c = tells_wide_numbers
