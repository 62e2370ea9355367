-- A number has a property: found by testing it against all numbers below a bound, one after another.
use Rattle.std.proofs.Common.{◌≡◌, ℕ, ◌+◌, ◌^◌, ◌<◌, inl, inr, Bool, true, false, ◌&&◌, ◌||◌, ◌==◌, nat_lt, List, refl, subst, arith}
use Rattle.std.proofs.lemmas.Bool.{ne_eqb, cases_eq}
use Rattle.std.proofs.lemmas.Bool.Decides.{nat_tests}
use Rattle.net_fields.specs.Spelling.{spelt}
use Rattle.net_fields.proofs.Patterns.{spelt_lt}

here_by : (s : ℕ) (x : Bool) → ((nat_lt s s && x) || ((s == s) && x)) ≡ (nat_lt s (s + 1) && x)
here_by s true = grind (arith, nat_tests)
here_by s false = grind (arith, nat_tests)

away_by : (s k : ℕ) (x y : Bool) → (s ≡ k → ⊥) → ((nat_lt s k && x) || ((s == k) && y)) ≡ (nat_lt s (k + 1) && x)
away_by s k x y n = rw (ne_eqb s k n, more s k n) (plain (nat_lt s (k + 1) && x))
  where
    more : (s k : ℕ) → (s ≡ k → ⊥) → nat_lt s k ≡ nat_lt s (k + 1)
    more s k n = grind (arith, nat_tests, n)

    plain : (b : Bool) → (b || (false && y)) ≡ b
    plain true = refl
    plain false = refl

pub found_step : (P : ℕ → Bool) (s k : ℕ) (any here next : Bool) → any ≡ (nat_lt s k && P s) → here ≡ ((s == k) && P k) → next ≡ (any || here) → next ≡ (nat_lt s (k + 1) && P s)
found_step P s k any here next e f g = elim (cases_eq s k) [
  | inl q ↦ rw (g, e, f) (subst (λ m. ((nat_lt s m && P s) || ((s == m) && P m)) ≡ (nat_lt s (m + 1) && P s)) q (here_by s (P s)))
  | inr n ↦ rw (g, e, f) (away_by s k (P s) (P k) n)
]

pub found_all : (w : List Bool) (first bits k : ℕ) (x : Bool) → bits ≡ 4 → k ≡ 16 → (nat_lt (spelt w first bits) k && x) ≡ x
found_all w first bits k x e q = all (spelt w first bits) x (subst (λ b. spelt w first bits < 2 ^ b) e (spelt_lt w first bits)) q
  where
    all : (s : ℕ) (x : Bool) → s < 2 ^ 4 → k ≡ 16 → (nat_lt s k && x) ≡ x
    all s true lt q = grind (arith, nat_tests, lt, q)
    all s false lt q = grind (arith, nat_tests, lt, q)
