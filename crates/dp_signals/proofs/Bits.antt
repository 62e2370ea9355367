-- Truths as words, and the number of rows that are constants.
use Rattle.std.proofs.Common.{◌≡◌, ◌<◌, Bool, true, false, length, refl, arith}
use Rattle.y86_base.specs.Words.{set}
use Rattle.dp_signals.specs.PipeEquations.{constants}
use Rattle.dp_signals.specs.Tables.{constant_count}
use Rattle.dp_signals.specs.Values.{bit}

-- the word of a truth is 0 or 1
pub bit_lt : (b : Bool) → bit b < 2
bit_lt true = omega arith
bit_lt false = omega arith

-- and the word is true exactly if the truth is
pub set_bit : (b : Bool) → set (bit b) ≡ b
set_bit true = refl
set_bit false = refl

-- each constant has a row
pub constants_count : length constants ≡ constant_count
unfolding constants
constants_count = refl
