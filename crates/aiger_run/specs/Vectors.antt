-- The vectors of inputs: the lowest nine inputs of a vector are the bits of its number, and the others are drawn.
use Rattle.std.specs.Prelude.{ℕ, zero, suc, ◌+◌, ◌-◌, ◌/◌, ◌%◌, ◌^◌, Bool, ◌==◌, nat_lt, if◌then◌else◌, List, [], ◌∷◌, ◌++◌}
use Rattle.prog_gen.specs.Draws.{lcg_next, lcg_output}

-- the word after the given number of draws
unfoldable pub word_behind : ℕ → ℕ → ℕ
word_behind word zero = word
word_behind word (suc n) = lcg_next (word_behind word n)

-- input k of a vector: bit k of its number, or from input 9 on a draw of its own, modulo 2
abbrev pub bit_behind : ℕ → ℕ → ℕ → Bool
bit_behind word i k = if nat_lt k 9 then (i / 2 ^ k) % 2 == 1 else lcg_output (word_behind word (k - 8)) % 2 == 1

-- the given number of inputs of vector i, whose draws start from the seed plus i
unfoldable pub vector : ℕ → ℕ → ℕ → List Bool
vector seed i zero = []
vector seed i (suc n) = vector seed i n ++ bit_behind ((seed + i) % 2 ^ 64) i n ∷ []
