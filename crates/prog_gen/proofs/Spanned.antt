-- The numbers of a span that pass a test, in rising order.
use Rattle.std.proofs.Common.{◌≡◌, ◌⊎◌, inl, inr, ℕ, zero, suc, ◌+◌, ◌-◌, ◌%◌, ◌^◌, ◌<◌, ◌≤◌, min, Bool, true, false, ◌&&◌, nat_le, nat_lt, List, [], ◌∷◌, ◌++◌, length, get_or, unwrap_or, refl, sym, ap, ◌∙◌, arith}
use Rattle.std.specs.List.{filter, range_with_len}
use Rattle.std.proofs.lemmas.Bool.{cases_lt}
use Rattle.std.proofs.lemmas.Bool.Decides.{nat_tests}
use Rattle.std.proofs.lemmas.List.{map-id}
use Rattle.std.proofs.lemmas.List.FromFn.{map-range_with_len_more, length-range_with_len, get_or-range_with_len}
use Rattle.std.proofs.lemmas.Option.{unwrap_or-slice_get}
use Rattle.std.proofs.Math.Nat.{pow-le-pow_right}
use Rattle.prog_gen.specs.Choices.{chosen}
use Rattle.prog_gen.proofs.Chosen.{passes_more, passes_same}

more_from : (a n : ℕ) → range_with_len a (n + 1) ≡ range_with_len a n ++ (a + n) ∷ []
more_from a n = sym (map-id (range_with_len a (n + 1))) ∙ (map-range_with_len_more (λ x. x) a n (a + n) refl ∙ ap (λ (xs : List ℕ). xs ++ (a + n) ∷ []) (map-id (range_with_len a n)))

test_in : (first end n : ℕ) → first ≤ n → n < end → (nat_le first n && nat_lt n end) ≡ true
test_in first end n p q = grind (arith, nat_tests)

test_low : (first end n : ℕ) → n < first → (nat_le first n && nat_lt n end) ≡ false
test_low first end n p = grind (arith, nat_tests)

test_high : (first end n : ℕ) → end ≤ n → (nat_le first n && nat_lt n end) ≡ false
test_high first end n p = grind (arith, nat_tests)

-- one more number
spanned_more : (may : ℕ → Bool) (first end n : ℕ) → (nat_le first n && nat_lt n end) ≡ may n → filter may (range_with_len 0 n) ≡ range_with_len first (min end n - first)
    → filter may (range_with_len 0 (n + 1)) ≡ range_with_len first (min end (n + 1) - first)
spanned_more may first end n test earlier = by (cases_lt n first) (cases_lt n end)
  where
    stays : may n ≡ false → min end n - first ≡ min end (n + 1) - first → filter may (range_with_len 0 (n + 1)) ≡ range_with_len first (min end (n + 1) - first)
    stays off e = passes_same may n off ∙ (earlier ∙ ap (range_with_len first) e)

    by : (n < first) ⊎ (first ≤ n) → (n < end) ⊎ (end ≤ n) → filter may (range_with_len 0 (n + 1)) ≡ range_with_len first (min end (n + 1) - first)
    by (inl low) other = stays (sym test ∙ test_low first end n low) (omega (arith, low))
    by (inr le) (inr high) = stays (sym test ∙ test_high first end n high) (omega (arith, high))
    by (inr le) (inl lt) =
        let size : min end n - first ≡ n - first = omega (arith, lt) in
        let last : first + (n - first) ≡ n = omega (arith, le) in
        let more : n - first + 1 ≡ min end (n + 1) - first = omega (arith, lt, le) in
        passes_more may n (sym test ∙ test_in first end n le lt)
        ∙ (ap (λ (xs : List ℕ). xs ++ n ∷ []) (earlier ∙ ap (range_with_len first) size)
        ∙ (sym (more_from first (n - first) ∙ ap (λ (m : ℕ). range_with_len first (n - first) ++ m ∷ []) last) ∙ ap (range_with_len first) more))

-- the numbers below another that pass
pub spanned : (may : ℕ → Bool) (first end upto : ℕ) → ((n : ℕ) → n < upto → (nat_le first n && nat_lt n end) ≡ may n)
    → filter may (range_with_len 0 upto) ≡ range_with_len first (min end upto - first)
spanned may first end zero h =
    let none : min end 0 - first ≡ 0 = omega arith in
    sym (ap (range_with_len first) none)
spanned may first end (suc n) h =
    let next : suc n ≡ n + 1 = omega arith in
    ap (λ (m : ℕ). filter may (range_with_len 0 m)) next
    ∙ (spanned_more may first end n (h n (omega arith)) (spanned may first end n (λ m lt. h m (omega (arith, lt))))
    ∙ ap (λ (m : ℕ). range_with_len first (min end m - first)) (sym next))

-- one of them
pub chosen_some : (first count position : ℕ) → 0 < count → chosen (range_with_len first count) position ≡ first + position % count
chosen_some first count position h =
    let size : length (range_with_len first count) ≡ count = length-range_with_len first count in
    unwrap_or-slice_get (range_with_len first count) (position % length (range_with_len first count)) 0
    ∙ (ap (λ (m : ℕ). get_or (range_with_len first count) (position % m) 0) size ∙ get_or-range_with_len first count (position % count) 0 (omega (arith, h)))

pub chosen_none : (first count position : ℕ) → count ≡ 0 → chosen (range_with_len first count) position ≡ 0
chosen_none first count position h = ap (λ (m : ℕ). chosen (range_with_len first m) position) h

pub small : (bits : ℕ) → bits ≤ 4 → 2 ^ bits ≤ 16
small bits h = pow-le-pow_right {n = 2} (omega arith) {i = bits} {j = 4} h
