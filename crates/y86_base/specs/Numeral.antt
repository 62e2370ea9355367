-- Numbers as text: the digits in a base, lower-case, padded with `0` to a least width.
use Rattle.std.specs.Prelude.{ℕ, ◌-◌, ◌^◌, nat_lt, if◌then◌else◌, false, List, ◌++◌, codes, length, replicate}
use Rattle.std.specs.Fmt.{digits}

-- the digits of n in the base, as `{n}` or `{n:x}` prints them, padded with `0` if they are fewer than least
unfoldable pub numeral : ℕ → ℕ → ℕ → List ℕ
numeral base least n = replicate (least - length (digits base false n)) 48 ++ digits base false n

-- a word of 64 bits as a signed number, in two's complement, without leading zeros
unfoldable pub signed_decimal : ℕ → List ℕ
signed_decimal n = if nat_lt n (2 ^ 63) then numeral 10 1 n else codes "-" ++ numeral 10 1 (2 ^ 64 - n)
