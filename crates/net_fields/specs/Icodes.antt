-- Tests at each icode.
use Rattle.std.specs.Prelude.{ℕ, zero, suc, ◌==◌, ◌||◌, ◌&&◌, not, Bool, true}

-- a test holds for each number below n
unfoldable pub each_below : ℕ → (ℕ → Bool) → Bool
each_below zero p = true
each_below (suc n) p = each_below n p && p n

-- if a field is one of the numbers below n, the test of that number holds
abbrev pub where_below : ℕ → ℕ → (ℕ → Bool) → Bool
where_below n field p = each_below n (λ k. not (field == k) || p k)
