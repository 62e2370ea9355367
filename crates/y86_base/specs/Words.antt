-- Words of 64 bits: as signed numbers, in two's complement (CS:APP 3e, section 2.2.3), and as truths.
use Rattle.std.specs.Prelude.{ℕ, ◌+◌, ◌^◌, ◌%◌, ◌==◌, Bool, not, nat_lt}

-- a word is less than another, both as signed numbers; `words.is_less` proves it equal to the order of the integers
unfoldable pub is_less : ℕ → ℕ → Bool
is_less a b = nat_lt ((a + 2 ^ 63) % 2 ^ 64) ((b + 2 ^ 63) % 2 ^ 64)

-- a word counts as true if it isn't 0, and so does a field of one bit
abbrev pub set : ℕ → Bool
set word = not (word == 0)
