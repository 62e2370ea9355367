-- Laws of lists that the kit's std doesn't have: the element at a position, and the last element.
use Rattle.std.proofs.Common.{◌≡◌, ℕ, zero, suc, ◌+◌, ◌<◌, ◌≤◌, ◌⊎◌, inl, inr, true, false, List, [], ◌∷◌, ◌++◌, length, get_or, drop, replicate, reverse, Some, slice_get, refl, sym, ap, ◌∙◌, arith}
use Rattle.std.proofs.lemmas.Bool.{cases_lt, false≢true}
use Rattle.std.proofs.lemmas.List.{drop_more, get_or-replicate, get_or_past, length-replicate, reverse-append}

-- there is an element at each position inside a list
pub element_at : {A : Type 0} (xs : List A) (n : ℕ) → n < length xs → (x : A) × (slice_get xs n ≡ Some x)
element_at [] n lt = absurd (omega (arith, lt))
element_at (x ∷ xs) zero lt = (x, refl)
element_at (x ∷ xs) (suc n) lt = element_at xs n (omega (arith, lt))

-- a loop over a list reads its elements with themselves as default, and so drops to the element and the rest
pub item_is : {A B : Type 0} (F : List A → B) (xs : List A) (i : ℕ) (x : A) → i < length xs → x ≡ get_or xs i x → F (drop i xs) ≡ F (x ∷ drop (i + 1) xs)
item_is {A} F xs i x h e = ap F (drop_more xs i x h) ∙ ap (λ (y : A). F (y ∷ drop (i + 1) xs)) (sym e)

-- a list of `false` has no `true`
pub none_true : (k j : ℕ) → get_or (replicate k false) j false ≡ true → ⊥
none_true k j e = by (cases_lt j k)
  where
    by : (j < k) ⊎ (k ≤ j) → ⊥
    by (inl lt) = false≢true (sym (get_or-replicate k j false false lt) ∙ e)
    by (inr le) = false≢true (sym (get_or_past (replicate k false) j false (let l = length-replicate k false in omega (arith, l, le))) ∙ e)

-- the last element of a list is the first one of the reversed list
pub reverse_push : {A : Type 0} (below : List A) (last : A) → reverse (below ++ last ∷ []) ≡ last ∷ reverse below
reverse_push below last = reverse-append below (last ∷ [])
