-- Tests for all numbers that a field can have amount to the one test for the number that it has.
use Rattle.std.proofs.Common.{◌≡◌, ℕ, zero, suc, ◌+◌, ◌<◌, ◌≤◌, inl, inr, Bool, true, false, not, ◌&&◌, ◌||◌, ◌==◌, refl, subst, arith, add-one}
use Rattle.std.proofs.lemmas.Bool.{eq-eqb, ne_eqb, cases_eq}
use Rattle.net_fields.specs.Icodes.{each_below, where_below}

pub each_zero : (n : ℕ) (p : ℕ → Bool) → n ≡ 0 → each_below n p ≡ true
unfolding each_below
each_zero n p e = rw e refl

pub each_next : (n : ℕ) (p : ℕ → Bool) → each_below (n + 1) p ≡ (each_below n p && p n)
unfolding each_below
each_next n p = rw add-one refl

here_or : (x y : Bool) → x ≡ true → (not x || y) ≡ y
here_or true y h = refl
here_or false y h = cc

away_or : (x y : Bool) → x ≡ false → (not x || y) ≡ true
away_or true y h = cc
away_or false y h = refl

others : (n x : ℕ) (p : ℕ → Bool) → n ≤ x → each_below n (λ k. not (x == k) || p k) ≡ true
unfolding each_below
others zero x p le = refl
others (suc n) x p le = rw (others n x p (omega arith), away_or (x == n) (p n) (ne_eqb x n (λ e. absurd (omega arith)))) refl

pub where_is : (n x : ℕ) (p : ℕ → Bool) → x < n → where_below n x p ≡ p x
unfolding each_below
where_is zero x p lt = absurd (omega arith)
where_is (suc n) x p lt = elim (cases_eq x n) [
  | inl e ↦ subst (λ m. (each_below m (λ k. not (x == k) || p k) && (not (x == m) || p m)) ≡ p x) e (rw (others x x p (omega arith), here_or (x == x) (p x) (eq-eqb x x refl)) refl)
  | inr ne ↦ rw (where_is n x p (lt_of n x lt ne), away_or (x == n) (p n) (ne_eqb x n ne)) (and_true (p x))
]
  where
    lt_of : (n x : ℕ) → x < suc n → (x ≡ n → ⊥) → x < n
    lt_of n x lt ne = grind (arith, ne)

    and_true : (b : Bool) → (b && true) ≡ b
    and_true true = refl
    and_true false = refl
