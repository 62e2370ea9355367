use Rattle.std.proofs.Common.{◌≡◌, ◌≤◌, false, length, take, drop}
use Rattle.std.specs.Fmt.{digits_onto, digits}
use Rattle.y86_base.proofs.numeral.write_digits.Given as goal

abbrev pub invariant-loop-at : goal.invariant-loop-at
invariant-loop-at l =
    (l.at ≤ 64) × (length l.bytes ≡ 64) × (digits_onto l.at l.base false l.left (drop l.at l.bytes) ≡ digits l.base false l.n) × (take l.at l.bytes ≡ take l.at l.fn.bytes)

abbrev pub decreases-loop-at : goal.decreases-loop-at
decreases-loop-at l = l.at
