-- The numbers below an end, counted up one at a time.
use Rattle.std.proofs.Common.{◌≡◌, ℕ, zero, suc, ◌+◌, List, [], ◌∷◌, ◌++◌, sym, ap, ◌∙◌, arith, add-one, add-zero, zero-add}
use Rattle.std.specs.List.{range_with_len}

last_of : (a n : ℕ) → range_with_len a (suc n) ≡ range_with_len a n ++ (a + n) ∷ []
last_of a zero = ap (λ (k : ℕ). k ∷ []) (sym (add-zero a))
last_of a (suc n) =
    ap (λ (xs : List ℕ). a ∷ xs) (last_of (a + 1) n ∙ ap (λ (k : ℕ). range_with_len (a + 1) n ++ k ∷ []) (next a n))
  where
    next : (a n : ℕ) → a + 1 + n ≡ a + suc n
    next a n = omega arith

pub numbers_more : (n : ℕ) (xs : List ℕ) → xs ≡ range_with_len 0 n → xs ++ n ∷ [] ≡ range_with_len 0 (n + 1)
numbers_more n xs e =
    ap (λ (ys : List ℕ). ys ++ n ∷ []) e
    ∙ (ap (λ (k : ℕ). range_with_len 0 n ++ k ∷ []) (sym (zero-add n)) ∙ (sym (last_of 0 n) ∙ ap (range_with_len 0) (sym (add-one n))))
