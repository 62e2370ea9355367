-- A property of each number below a limit, from a proof for each.
use Rattle.std.proofs.Common.{◌≡◌, ◌⊎◌, inl, inr, ℕ, zero, suc, ◌+◌, ◌<◌, ◌≤◌, sym, subst, arith}
use Rattle.std.proofs.lemmas.Bool.{cases_eq}

abbrev From : (ℕ → Type 0) → ℕ → ℕ → Type 0
From P first zero = Unit {0}
From P first (suc count) = P first × From P (suc first) count

-- a proof for each of count numbers, from first on
pub record EachFrom (P : ℕ → Type 0) (first count : ℕ) : Type 0 where
  pub all : From P first count

infixr 5 ◌▹◌
pub ◌▹◌ : {P : ℕ → Type 0} {first count : ℕ} → P first → EachFrom P (suc first) count → EachFrom P first (suc count)
p ▹ rest = record { all = (p, rest.all) }

pub no_more : {P : ℕ → Type 0} {first : ℕ} → EachFrom P first 0
no_more = record { all = tt }

each_from : (P : ℕ → Type 0) (first count : ℕ) → From P first count → (j : ℕ) → first ≤ j → j < first + count → P j
each_from P first zero each j ge lt = absurd (omega (arith, ge, lt))
each_from P first (suc count) each j ge lt = by (cases_eq j first) (λ after. each_from P (suc first) count each.1 j after (omega (arith, lt)))
  where
    by : (j ≡ first) ⊎ (j ≡ first → ⊥) → (suc first ≤ j → P j) → P j
    by (inl e) later = subst P (sym e) each.0
    by (inr ne) later = later (grind (arith, ne, ge))

pub each_below : (P : ℕ → Type 0) (count : ℕ) → EachFrom P 0 count → (j : ℕ) → j < count → P j
each_below P count each j lt = each_from P 0 count each.all j (omega arith) (omega (arith, lt))
