use Rattle.std.proofs.Common.{◌≡◌, take}
use Rattle.std.specs.Str.Parse.{digits_value}
use Rattle.y86_base.specs.Text.{below_word}
use Rattle.y86_base.proofs.text.number_in_base.Given as goal

abbrev pub invariant-loop-digit : goal.invariant-loop-digit
invariant-loop-digit l = l.value ≡ below_word (digits_value l.base (take l.digit-index l.digits))
