-- Elements of lists after a push and a write, and rows by their places.
use Rattle.std.proofs.Common.{◌≡◌, ◌⊎◌, ℕ, zero, suc, ◌+◌, ◌<◌, Bool, true, false, cond, List, [], ◌∷◌, ◌++◌, length, take, Option, Some, slice_get, IsTrue, refl, sym, ap, ◌∙◌, subst, arith, inl, inr}
use Rattle.std.proofs.Math.ListN.{set}
use Rattle.std.proofs.lemmas.Option.{slice_get_within, same_Some}
use Rattle.std.specs.List.{AllByRecursion}
use Rattle.hcl_types.specs.declared.table.Row.{Row}
use Rattle.hcl_types.specs.Tables.{defined, is_defined}

pub push_case : {A : Type 0} (xs : List A) (y : A) (n : ℕ) (x : A) → slice_get (xs ++ y ∷ []) n ≡ Some x → (slice_get xs n ≡ Some x) ⊎ ((n ≡ length xs) × (x ≡ y))
push_case [] y zero x h = inr (refl, sym (same_Some y x h))
push_case [] y (suc n) x h = absurd (grind (arith, h))
push_case (z ∷ xs) y zero x h = inl h
push_case {A} (z ∷ xs) y (suc n) x h = next (push_case xs y n x h)
  where
    next : (slice_get xs n ≡ Some x) ⊎ ((n ≡ length xs) × (x ≡ y)) → (slice_get xs n ≡ Some x) ⊎ ((suc n ≡ suc (length xs)) × (x ≡ y))
    next (inl p) = inl p
    next (inr p) = inr (ap suc p.0, p.1)

-- an element of a list in which one was written
pub set_case : {A : Type 0} (xs : List A) (k : ℕ) (y : A) (n : ℕ) (x : A) → slice_get (set xs k y) n ≡ Some x → ((n ≡ k) × (x ≡ y)) ⊎ (slice_get xs n ≡ Some x)
set_case [] k y n x h = inr h
set_case (z ∷ xs) zero y zero x h = inl (refl, sym (same_Some y x h))
set_case (z ∷ xs) zero y (suc n) x h = inr h
set_case (z ∷ xs) (suc k) y zero x h = inr h
set_case {A} (z ∷ xs) (suc k) y (suc n) x h = next (set_case xs k y n x h)
  where
    next : ((n ≡ k) × (x ≡ y)) ⊎ (slice_get xs n ≡ Some x) → ((suc n ≡ suc k) × (x ≡ y)) ⊎ (slice_get xs n ≡ Some x)
    next (inl p) = inl (ap suc p.0, p.1)
    next (inr p) = inr p

-- a test that the written element passes is still passed where it was
pub set_passes : {A : Type 0} (test : Option A → Bool) (xs : List A) (k : ℕ) (y : A) (n : ℕ) → IsTrue (test (Some y)) → IsTrue (test (slice_get xs n)) → IsTrue (test (slice_get (set xs k y) n))
set_passes test [] k y n t h = h
set_passes test (z ∷ xs) zero y zero t h = t
set_passes test (z ∷ xs) zero y (suc n) t h = h
set_passes test (z ∷ xs) (suc k) y zero t h = h
set_passes test (z ∷ xs) (suc k) y (suc n) t h = set_passes test xs k y n t h

pub set_here : {A : Type 0} (xs : List A) (k : ℕ) (y : A) → k < length xs → slice_get (set xs k y) k ≡ Some y
set_here [] k y h = absurd (omega arith)
set_here (z ∷ xs) zero y h = refl
set_here (z ∷ xs) (suc k) y h = set_here xs k y (omega arith)

-- row n, if it is defined, is the defined row whose place is the number of defined rows before it
pub defined_at : (rows : List Row) (n : ℕ) (row : Row) → slice_get rows n ≡ Some row → is_defined row.role ≡ true → slice_get (defined rows) (length (defined (take n rows))) ≡ Some row
defined_at [] n row e d = absurd (grind (arith, e))
defined_at (r ∷ rows) zero row e d =
    let same = same_Some r row e in
    ap (λ b. slice_get (cond b (r ∷ defined rows) (defined rows)) 0) (ap (λ (x : Row). is_defined x.role) same ∙ d) ∙ e
defined_at (r ∷ rows) (suc n) row e d = by (is_defined r.role) (defined_at rows n row e d)
  where
    by : (b : Bool) → slice_get (defined rows) (length (defined (take n rows))) ≡ Some row
        → slice_get (cond b (r ∷ defined rows) (defined rows)) (length (cond b (r ∷ defined (take n rows)) (defined (take n rows)))) ≡ Some row
    by true h = h
    by false h = h

pub defined_below : (rows : List Row) (n : ℕ) (row : Row) → slice_get rows n ≡ Some row → is_defined row.role ≡ true → length (defined (take n rows)) < length (defined rows)
defined_below rows n row e d = slice_get_within (defined rows) (length (defined (take n rows))) row (defined_at rows n row e d)

pub each_at : {A : Type 0} (P : A → Type 0) (xs : List A) (n : ℕ) (x : A) → slice_get xs n ≡ Some x → AllByRecursion P xs → P x
each_at P [] n x e h = absurd (grind (arith, e))
each_at P (y ∷ xs) zero x e h = subst P (same_Some y x e) h.0
each_at P (y ∷ xs) (suc n) x e h = each_at P xs n x e h.1
