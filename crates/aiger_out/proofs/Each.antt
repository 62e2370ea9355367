-- Lines, one after another.
use Rattle.std.proofs.Common.{◌≡◌, ◌⊎◌, inl, inr, ℕ, zero, suc, ◌+◌, ◌<◌, ◌≤◌, All, List, [], ◌∷◌, ◌++◌, length, slice_get, Some, append_assoc, refl, sym, ap, ◌∙◌, arith, add-one}
use Rattle.std.proofs.lemmas.Bool.{cases_lt}
use Rattle.std.proofs.lemmas.List.{append-nil, length_push}
use Rattle.std.proofs.lemmas.List.Elements.{All-append, All-cons, All-nil}
use Rattle.y86_base.specs.Text.{HasNoLineFeed, with_line_feeds}
use Rattle.aiger_out.specs.Written.{each}

pub fed_append : (xs ys : List (List ℕ)) → with_line_feeds (xs ++ ys) ≡ with_line_feeds xs ++ with_line_feeds ys
fed_append [] ys = refl
fed_append (x ∷ xs) ys = ap (λ (t : List ℕ). x ++ (10 ∷ t)) (fed_append xs ys) ∙ sym (append_assoc x (10 ∷ with_line_feeds xs) (with_line_feeds ys))

pub each_next : (line : ℕ → List ℕ) (k : ℕ) → each line (k + 1) ≡ each line k ++ line k ∷ []
each_next line k = rw add-one refl

pub each_none : (text : List ℕ) (line : ℕ → List ℕ) → text ≡ text ++ with_line_feeds (each line 0)
each_none text line = sym (append-nil text)

pub each_more : (first old new : List ℕ) (line : ℕ → List ℕ) (k : ℕ) → old ≡ first ++ with_line_feeds (each line k) → new ≡ old ++ with_line_feeds (line k ∷ [])
    → new ≡ first ++ with_line_feeds (each line (k + 1))
each_more first old new line k e f =
    f ∙ (ap (λ (t : List ℕ). t ++ with_line_feeds (line k ∷ [])) e ∙ (append_assoc first (with_line_feeds (each line k)) (with_line_feeds (line k ∷ []))
    ∙ ap (λ (t : List ℕ). first ++ t) (sym (fed_append (each line k) (line k ∷ [])) ∙ ap with_line_feeds (sym (each_next line k)))))

pub each_size : (line : ℕ → List ℕ) (n : ℕ) → length (each line n) ≡ n
each_size line zero = refl
each_size line (suc n) = let e = each_size line n in omega (arith, length_push (each line n) (line n), e)

pub each_free : (line : ℕ → List ℕ) (n : ℕ) → ((k : ℕ) → HasNoLineFeed (line k)) → All HasNoLineFeed (each line n)
each_free line zero h = All-nil HasNoLineFeed
each_free line (suc n) h = All-append HasNoLineFeed (each line n) (line n ∷ []) (each_free line n h) (All-cons HasNoLineFeed (line n) [] (h n) (All-nil HasNoLineFeed))

pub left_part : (xs ys : List (List ℕ)) (k : ℕ) → k < length xs → slice_get (xs ++ ys) k ≡ slice_get xs k
left_part [] ys k l = absurd (omega (arith, l))
left_part (x ∷ xs) ys zero l = refl
left_part (x ∷ xs) ys (suc k) l = left_part xs ys k (omega (arith, l))

pub right_part : (xs ys : List (List ℕ)) (n k : ℕ) → length xs ≡ n → slice_get (xs ++ ys) (n + k) ≡ slice_get ys k
right_part [] ys n k e = ap (slice_get ys) (omega (arith, e))
right_part (x ∷ xs) ys zero k e = absurd (omega (arith, e))
right_part (x ∷ xs) ys (suc n) k e = let s : suc n + k ≡ suc (n + k) = omega arith in ap (slice_get (x ∷ (xs ++ ys))) s ∙ right_part xs ys n k (omega (arith, e))

each_last : (line : ℕ → List ℕ) (n k : ℕ) → ((k < n → slice_get (each line n) k ≡ Some (line k))) → k < suc n → (k < n) ⊎ (n ≤ k) → slice_get (each line n ++ line n ∷ []) k ≡ Some (line k)
each_last line n k so_far l (inl low) = left_part (each line n) (line n ∷ []) k (omega (arith, each_size line n, low)) ∙ so_far low
each_last line n k so_far l (inr le) =
    let e : k ≡ n + 0 = omega (arith, l, le) in
    let s : n ≡ k = omega (arith, l, le) in
    ap (slice_get (each line n ++ line n ∷ [])) e ∙ (right_part (each line n) (line n ∷ []) n 0 (each_size line n) ∙ ap (λ (i : ℕ). Some (line i)) s)

pub each_at : (line : ℕ → List ℕ) (n k : ℕ) → k < n → slice_get (each line n) k ≡ Some (line k)
each_at line zero k l = absurd (omega (arith, l))
each_at line (suc n) k l = each_last line n k (λ low. each_at line n k low) l (cases_lt k n)
