use Rattle.std.proofs.Common.{◌≡◌, ◌++◌, ◌∷◌, take}
use Rattle.cert_writer.specs.Writing.{spaced}
use Rattle.cert_writer.proofs.text.put_numbers.Given as goal

abbrev pub invariant-loop-i : goal.invariant-loop-i
invariant-loop-i l = l.out.items ≡ l.fn.out.items ++ l.fn.letter ∷ spaced (take l.i l.fn.numbers)
