-- Lists that grow by one element.
use Rattle.std.proofs.Common.{◌≡◌, ℕ, ◌+◌, ◌<◌, ◌⊎◌, inl, inr, List, [], ◌∷◌, ◌++◌, length, get_or, slice_get, Some, sym, ap, subst, ◌∙◌, arith}
use Rattle.std.proofs.lemmas.List.{get_or_append_left, get_or_push, length_push}
use Rattle.std.proofs.lemmas.Option.{slice_get_within, slice_get-get_or, get_or_from_slice_get}

-- a number below the next of a bound is below the bound, or is the bound
pub below_or : (k n : ℕ) → k < n + 1 → (k < n) ⊎ (k ≡ n)
below_or k n lt = grind arith

-- an element of a list after a push is one of the list, or the pushed one
pub pushed : {A : Type 0} (P : ℕ → A → Type 0) (xs : List A) (y : A) → ((k : ℕ) (x : A) → slice_get xs k ≡ Some x → P k x) → P (length xs) y
    → (k : ℕ) (x : A) → slice_get (xs ++ y ∷ []) k ≡ Some x → P k x
pushed P xs y h last k x e = by_place (below_or k (length xs) (omega (arith, slice_get_within (xs ++ y ∷ []) k x e, length_push xs y)))
  where
    read : get_or (xs ++ y ∷ []) k y ≡ x
    read = get_or_from_slice_get (xs ++ y ∷ []) k x y e

    by_place : (k < length xs) ⊎ (k ≡ length xs) → P k x
    by_place (inl lt) = h k x (slice_get-get_or xs k y lt ∙ ap Some (sym (get_or_append_left xs (y ∷ []) y k lt) ∙ read))
    by_place (inr eq) = subst (λ z. P k z) (sym (get_or_push xs y y k (sym eq)) ∙ read) (subst (λ n. P n y) (sym eq) last)

pub counted : {A : Type 0} (xs ys : List A) (y : A) (n : ℕ) → ys ≡ xs ++ y ∷ [] → length xs ≡ n → length ys ≡ n + 1
counted xs ys y n e size = ap length e ∙ (length_push xs y ∙ ap (λ k. k + 1) size)
