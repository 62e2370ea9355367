-- What a field may be, by its place in a list of tests.
use Rattle.std.proofs.Common.{◌≡◌, ℕ, ◌<◌, Bool, List, sym, subst}
use Rattle.prog_gen.specs.Choices.{test_at}

pub at_place : (tests : List (ℕ → Bool)) (i k : ℕ) (p : ℕ → Bool) → i ≡ k → ((n : ℕ) → n < 16 → p n ≡ test_at tests k n) → (n : ℕ) → n < 16 → p n ≡ test_at tests i n
at_place tests i k p is h = subst (λ (m : ℕ). (n : ℕ) → n < 16 → p n ≡ test_at tests m n) (sym is) h
