-- Texts of labels and numbers.
use Rattle.std.specs.Prelude.{ℕ, List, [], ◌∷◌, ◌++◌, ◌==◌, nat_lt, codes, slice_index_or, if◌then◌else◌}
use Rattle.y86_base.specs.Numeral.{numeral}
use Rattle.y86_base.specs.Registers.{register_name}
use Rattle.y86_base.specs.Stat.{stat_name, stat_of}

-- an address: at least three hex digits
unfoldable pub address : ℕ → List ℕ
address n = codes "0x" ++ numeral 16 3 n

-- a register by its number: 15 is `-`, and a number that no register has is decimal
unfoldable pub register : ℕ → List ℕ
register n = if nat_lt n 15 then register_name n else (if n == 15 then codes "-" else numeral 10 1 n)

-- a function of the ALU by its number (figure 4.3): a number that no function has is decimal
unfoldable pub functions : List (List ℕ)
functions = codes "add" ∷ codes "sub" ∷ codes "and" ∷ codes "xor" ∷ []

unfoldable pub function : ℕ → List ℕ
function n = if nat_lt n 4 then slice_index_or functions n [] else numeral 10 1 n

-- a key, with blanks around it, and its value: a text, a word, a register, a number, an ALU function, or a status by
-- its number
unfoldable pub text_pair : List ℕ → List ℕ → List ℕ
text_pair key text = key ++ text

unfoldable pub word_pair : List ℕ → ℕ → List ℕ
word_pair key n = key ++ (codes "0x" ++ numeral 16 1 n)

unfoldable pub register_pair : List ℕ → ℕ → List ℕ
register_pair key n = key ++ register n

unfoldable pub number_pair : List ℕ → ℕ → List ℕ
number_pair key n = key ++ numeral 10 1 n

unfoldable pub function_pair : List ℕ → ℕ → List ℕ
function_pair key n = key ++ function n

unfoldable pub status_pair : List ℕ → ℕ → List ℕ
status_pair key n = key ++ stat_name (stat_of n)
