-- Two stores of values: a list of numbers, and a function.
use Rattle.std.proofs.Common.{◌≡◌, ℕ, ◌<◌, Bool, true, false, List, length, slice_set, nat_eq, if◌then◌else◌, refl, sym, subst, arith}
use Rattle.std.proofs.lemmas.Bool.Decides.{nat_tests}
use Rattle.std.proofs.lemmas.List.{get_or-set_same, get_or-set_other, length-set}
use Rattle.hcl_types.specs.Terms.{at}
use Rattle.hcl_types.specs.Equations.{IsStore}

pub list_store : IsStore (List ℕ) ℕ at slice_set (λ vals n. n < length vals)
list_store = record {
  same = λ s n a h. get_or-set_same s n a 0 h;
  other = λ s n m a h. get_or-set_other s n m a 0 (λ e. h (sym e));
  keeps = λ s n m a h. subst (λ z. m < z) (sym (length-set s n a)) h;
}

-- a function with another value at one argument
abbrev pub changed : {A : Type 0} → (ℕ → A) → ℕ → A → ℕ → A
changed f n a m = if nat_eq n m then a else f m

changed_same : {A : Type 0} (f : ℕ → A) (n : ℕ) (a : A) → changed f n a n ≡ a
changed_same f n a = by (nat_eq n n) refl
  where
    by : (b : Bool) → nat_eq n n ≡ b → changed f n a n ≡ a
    by true e = rw e refl
    by false e = absurd (grind (arith, nat_tests, e))

changed_other : {A : Type 0} (f : ℕ → A) (n m : ℕ) (a : A) → (n ≡ m → ⊥) → changed f n a m ≡ f m
changed_other f n m a h = by (nat_eq n m) refl
  where
    by : (b : Bool) → nat_eq n m ≡ b → changed f n a m ≡ f m
    by true e = absurd (h (grind (arith, nat_tests, e)))
    by false e = rw e refl

pub function_store : {A : Type 0} → IsStore (ℕ → A) A (λ f. f) changed (λ f n. Unit {0})
function_store = record {
  same = λ f n a h. changed_same f n a;
  other = λ f n m a h. changed_other f n m a h;
  keeps = λ f n m a h. tt;
}
