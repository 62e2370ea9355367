-- Members of a list, by their positions.
use Rattle.std.proofs.Common.{◌≡◌, ◌<◌, ◌≤◌, ◌⊎◌, inl, inr, ℕ, zero, suc, List, [], ◌∷◌, ◌++◌, length, get_or, refl, sym, ap, subst, arith}
use Rattle.std.specs.List.{AllByRecursion}
use Rattle.hcl_types.specs.Lists.{IsIn}

pub in_at : (xs : List ℕ) (k : ℕ) → k < length xs → IsIn (get_or xs k 0) xs
in_at [] k h = absurd (omega arith)
in_at (x ∷ xs) zero h = inl refl
in_at (x ∷ xs) (suc k) h = inr (in_at xs k (omega arith))

pub at_in : (x : ℕ) (xs : List ℕ) → IsIn x xs → (k : ℕ) × (k < length xs) × (get_or xs k 0 ≡ x)
at_in x [] h = absurd h
at_in x (y ∷ ys) (inl e) = (0, omega arith, sym e)
at_in x (y ∷ ys) (inr h) = let w = at_in x ys h in (suc w.0, omega (arith, w.1), w.2)

pub each_at : (P : ℕ → Type 0) (xs : List ℕ) → ((k : ℕ) → k < length xs → P (get_or xs k 0)) → (n : ℕ) → IsIn n xs → P n
each_at P xs h n i = let w = at_in n xs i in subst P w.2 (h w.0 w.1)

pub in_front : (x : ℕ) (xs ys : List ℕ) → IsIn x xs → IsIn x (xs ++ ys)
in_front x [] ys h = absurd h
in_front x (z ∷ zs) ys (inl e) = inl e
in_front x (z ∷ zs) ys (inr h) = inr (in_front x zs ys h)

pub in_last : (x : ℕ) (xs : List ℕ) → IsIn x (xs ++ x ∷ [])
in_last x [] = inl refl
in_last x (z ∷ zs) = inr (in_last x zs)

pub in_either : (x y : ℕ) (xs : List ℕ) → IsIn x (xs ++ y ∷ []) → IsIn x xs ⊎ (x ≡ y)
in_either x y [] (inl e) = inr e
in_either x y [] (inr h) = absurd h
in_either x y (z ∷ zs) (inl e) = inl (inl e)
in_either x y (z ∷ zs) (inr h) = elim (in_either x y zs h) [ inl i ↦ inl (inr i) | inr e ↦ inr e ]

pub last_or : (y n : ℕ) → y < suc n → (y < n) ⊎ (y ≡ n)
last_or zero zero h = inr refl
last_or zero (suc n) h = inl (omega arith)
last_or (suc y) zero h = absurd (omega arith)
last_or (suc y) (suc n) h = elim (last_or y n (omega arith)) [ inl i ↦ inl (omega arith) | inr e ↦ inr (ap suc e) ]

pub is_suc : (n : ℕ) → 0 < n → (k : ℕ) × (n ≡ suc k)
is_suc zero h = absurd (omega arith)
is_suc (suc n) h = (n, refl)

pub le_or : (a b : ℕ) → (a ≤ b) ⊎ (b < a)
le_or zero b = inl (omega arith)
le_or (suc a) zero = inr (omega arith)
le_or (suc a) (suc b) = elim (le_or a b) [ inl h ↦ inl (omega arith) | inr h ↦ inr (omega arith) ]

pub each_of : (P : ℕ → Type 0) (xs : List ℕ) → ((n : ℕ) → IsIn n xs → P n) → AllByRecursion P xs
each_of P [] h = tt
each_of P (x ∷ xs) h = (h x (inl refl), each_of P xs (λ n i. h n (inr i)))
