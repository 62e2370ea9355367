-- Numbers as they are written on the command line.
use Rattle.std.specs.Prelude.{ℕ, Bool, ◌&&◌, nat_le, if◌then◌else◌, List, length, Option, Some, None, option_and_then}
use Rattle.std.specs.List.{list_all}
use Rattle.std.specs.Str.Parse.{digits_value}
use Rattle.y86_base.specs.Text.{below_word, is_decimal}

-- a number is 1 to 20 decimal digits with a value below 2^64
abbrev pub is_number : List ℕ → Bool
is_number word = nat_le 1 (length word) && nat_le (length word) 20 && list_all is_decimal word

abbrev pub number_of : List ℕ → Option ℕ
number_of word = if is_number word then below_word (digits_value 10 word) else None

-- a number that passes a test
abbrev pub number_that : (ℕ → Bool) → List ℕ → Option ℕ
number_that passes word = option_and_then (λ n. if passes n then Some n else None) (number_of word)

-- a number from `least` to `most`
abbrev pub number_within : ℕ → ℕ → List ℕ → Option ℕ
number_within least most word = number_that (λ n. nat_le least n && nat_le n most) word

-- a number of steps or cycles that a run may be limited to
abbrev pub is_run_limit : ℕ → Bool
is_run_limit n = nat_le 1 n && nat_le n 100000000
