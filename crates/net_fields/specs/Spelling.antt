-- The number that bits spell, and the bits of a number; the most significant bit comes first.
use Rattle.std.specs.Prelude.{ℕ, zero, suc, ◌+◌, ◌*◌, ◌/◌, ◌%◌, Bool, true, false, ◌==◌, List, [], ◌∷◌, ◌++◌, get_or}

abbrev pub bit : Bool → ℕ
bit true = 1
bit false = 0

-- the number that the given number of bits spell, from the first one on
unfoldable pub spelt : List Bool → ℕ → ℕ → ℕ
spelt w first zero = 0
spelt w first (suc k) = 2 * spelt w first k + bit (get_or w (first + k) false)

-- the given number of a number's bits, the least significant ones
unfoldable pub spell : ℕ → ℕ → List Bool
spell zero n = []
spell (suc k) n = spell k (n / 2) ++ (n % 2 == 1) ∷ []
