-- How the code's digits of a line relate to the definitions of object text.
use Rattle.yo_object.specs.ObjectText.{Digits}
use Rattle.yo_object.specs.declared.line.LineDigits.{LineDigits}

abbrev pub digits_in : LineDigits → Digits
digits_in digits = record { address = digits.address.now; bytes = digits.bytes.now }
