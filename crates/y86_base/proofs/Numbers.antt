-- Laws of numbers and of tests of numbers that the kit's std doesn't have.
use Rattle.std.proofs.Common.{◌≡◌, ℕ, zero, suc, ◌<◌, inl, inr, Bool, true, ◌&&◌, ◌==◌, refl, sym, subst, arith}
use Rattle.std.proofs.lemmas.Bool.{and_parts, cases_eq, eq-eqb}

-- the test of equality accepts equal numbers
pub eqb_self : (x : ℕ) → (x == x) ≡ true
eqb_self x = eq-eqb x x refl

-- a test passes for each number below a bound
unfoldable pub each_number : ℕ → (ℕ → Bool) → Bool
each_number zero p = true
each_number (suc n) p = each_number n p && p n

-- a test that passes for each number below a bound passes for this one
pub number_tests : (n : ℕ) (p : ℕ → Bool) → each_number n p ≡ true → (k : ℕ) → k < n → p k ≡ true
unfolding each_number
number_tests zero p h k lt = absurd (omega (arith, lt))
number_tests (suc n) p h k lt = elim (cases_eq k n) [
  | inl e ↦ subst (λ i. p i ≡ true) (sym e) (and_parts (each_number n p) (p n) h).1
  | inr ne ↦ number_tests n p (and_parts (each_number n p) (p n) h).0 k (below ne)
]
  where
    below : (k ≡ n → ⊥) → k < n
    below ne = omega (arith, lt, ne)
