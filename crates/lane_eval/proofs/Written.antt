-- One place of vectors that is written, and the first place that is false.
use Rattle.std.proofs.Common.{◌≡◌, ◌≢◌, ◌⊎◌, inl, inr, ℕ, ◌+◌, ◌-◌, ◌*◌, ◌/◌, ◌%◌, ◌^◌, ◌<◌, ◌≤◌, Bool, true, false, ◌==◌, if◌then◌else◌, List, [], length, get_or, set, sym, ap, ◌∙◌, arith, w64, bit_and, bit_or}
use Rattle.std.specs.Int.{bit_at, trailing_ones}
use Rattle.std.proofs.lemmas.Nat.Bits.{bit_at_set_same, bit_at_set_other, bit_at_clear_same, bit_at_clear_other, bit_at_ones, bit_at-trailing_ones}
use Rattle.std.proofs.lemmas.Bool.{cases_eq}
use Rattle.std.proofs.lemmas.Bool.Decides.{nat_tests}
use Rattle.std.proofs.lemmas.List.{get_or-set_same, get_or-set_other, get_or-map, length-map, ext_get_or}
use Rattle.lane_eval.specs.Lanes.{bit_test, lane_bit, across}

-- a choice by a test of two numbers
pub chosen_same : {A : Type 0} (j k : ℕ) (x y : A) → j ≡ k → (if j == k then x else y) ≡ x
chosen_same {A} j k x y e =
    let t : (j == k) ≡ true = grind (arith, nat_tests) in
    ap (λ (b : Bool). if b then x else y) t

pub chosen_other : {A : Type 0} (j k : ℕ) (x y : A) → j ≢ k → (if j == k then x else y) ≡ y
chosen_other {A} j k x y e =
    let t : (j == k) ≡ false = grind (arith, nat_tests) in
    ap (λ (b : Bool). if b then x else y) t

pub bit_set : (word k j : ℕ) (bit : Bool) → bit ≡ true → k < 64 → bit_test (bit_or word (1 * 2 ^ k % 2 ^ 64)) j ≡ (if j == k then bit else bit_test word j)
bit_set word k j bit one h = by (cases_eq j k)
  where
    by : (j ≡ k) ⊎ (j ≡ k → ⊥) → bit_test (bit_or word (1 * 2 ^ k % 2 ^ 64)) j ≡ (if j == k then bit else bit_test word j)
    by (inl same) =
        ap (bit_test (bit_or word (1 * 2 ^ k % 2 ^ 64))) same ∙ (ap (λ n. n == 1) (bit_at_set_same w64 word k h) ∙ (sym one ∙ sym (chosen_same j k bit (bit_test word j) same)))
    by (inr other) = ap (λ n. n == 1) (bit_at_set_other w64 word k h j other) ∙ sym (chosen_other j k bit (bit_test word j) other)

pub bit_clear : (word k j : ℕ) (bit : Bool) → bit ≡ false → k < 64 → j < 64 → bit_test (bit_and word (2 ^ 64 - 1 - 1 * 2 ^ k % 2 ^ 64)) j ≡ (if j == k then bit else bit_test word j)
bit_clear word k j bit zero_bit h small = by (cases_eq j k)
  where
    by : (j ≡ k) ⊎ (j ≡ k → ⊥) → bit_test (bit_and word (2 ^ 64 - 1 - 1 * 2 ^ k % 2 ^ 64)) j ≡ (if j == k then bit else bit_test word j)
    by (inl same) =
        ap (bit_test (bit_and word (2 ^ 64 - 1 - 1 * 2 ^ k % 2 ^ 64))) same ∙ (ap (λ n. n == 1) (bit_at_clear_same w64 word k h) ∙ (sym zero_bit ∙ sym (chosen_same j k bit (bit_test word j) same)))
    by (inr other) = ap (λ n. n == 1) (bit_at_clear_other w64 word k h j small other) ∙ sym (chosen_other j k bit (bit_test word j) other)

-- in a word of a vector one bit is written
pub word_put : (v : List ℕ) (p q w : ℕ) (truth : Bool) → length v ≡ 8 → p < 512 → q < 512
    → ((j : ℕ) → j < 64 → bit_test w j ≡ (if j == p % 64 then truth else bit_test (get_or v (p / 64) 0) j))
    → lane_bit q (set v (p / 64) w) ≡ (if q == p then truth else lane_bit q v)
unfolding lane_bit
word_put v p q w truth size hp hq put = by (cases_eq (q / 64) (p / 64)) (cases_eq q p)
  where
    by : ((q / 64) ≡ (p / 64)) ⊎ ((q / 64) ≡ (p / 64) → ⊥) → (q ≡ p) ⊎ (q ≡ p → ⊥) → bit_test (get_or (set v (p / 64) w) (q / 64) 0) (q % 64) ≡ (if q == p then truth else bit_test (get_or v (q / 64) 0) (q % 64))
    by (inl same) (inl all) =
        ap (λ l. bit_test (get_or (set v (p / 64) w) l 0) (q % 64)) same
        ∙ (ap (λ x. bit_test x (q % 64)) (get_or-set_same v (p / 64) w 0 (omega (arith, size)))
        ∙ (put (q % 64) (omega arith) ∙ (chosen_same (q % 64) (p % 64) truth _ (ap (λ n. n % 64) all) ∙ sym (chosen_same q p truth _ all))))
    by (inl same) (inr none) =
        ap (λ l. bit_test (get_or (set v (p / 64) w) l 0) (q % 64)) same
        ∙ (ap (λ x. bit_test x (q % 64)) (get_or-set_same v (p / 64) w 0 (omega (arith, size)))
        ∙ (put (q % 64) (omega arith) ∙ (chosen_other (q % 64) (p % 64) truth _ (λ e. none (omega (arith, e, same)))
        ∙ (ap (λ l. bit_test (get_or v l 0) (q % 64)) (sym same) ∙ sym (chosen_other q p truth _ none)))))
    by (inr other) (inl all) = absurd (other (ap (λ n. n / 64) all))
    by (inr other) (inr none) =
        ap (λ x. bit_test x (q % 64)) (get_or-set_other v (p / 64) (q / 64) w 0 other) ∙ sym (chosen_other q p truth _ none)

-- each vector has the truth of its place
pub put_whole : (p : ℕ) (vs : List (List ℕ)) (truths : List Bool) → length truths ≡ length vs
    → ((u : ℕ) → u < length vs → lane_bit p (get_or vs u []) ≡ get_or truths u false) → across p vs ≡ truths
put_whole p vs truths size each =
    ext_get_or false (across p vs) truths (length-map vs (lane_bit p) ∙ sym size)
    (λ i h.
    let small : i < length vs = omega (arith, h, length-map vs (lane_bit p)) in
    get_or-map (lane_bit p) vs i [] false small ∙ each i small)

pub put_others : (p : ℕ) (vs old : List (List ℕ)) → length vs ≡ length old
    → ((u : ℕ) → u < length vs → lane_bit p (get_or vs u []) ≡ lane_bit p (get_or old u [])) → across p vs ≡ across p old
put_others p vs old size each =
    ext_get_or false (across p vs) (across p old) (length-map vs (lane_bit p) ∙ (size ∙ sym (length-map old (lane_bit p))))
    (λ i h.
    let small : i < length vs = omega (arith, h, length-map vs (lane_bit p)) in
    get_or-map (lane_bit p) vs i [] false small ∙ (each i small ∙ sym (get_or-map (lane_bit p) old i [] false (omega (arith, small, size)))))

-- a word of ones is true in its 64 places
pub full_word : (v : List ℕ) (l p : ℕ) → get_or v l 0 ≡ 2 ^ 64 - 1 → p / 64 ≡ l → lane_bit p v ≡ true
unfolding lane_bit
full_word v l p full e =
    ap (λ i. bit_test (get_or v i 0) (p % 64)) e ∙ (ap (λ x. bit_test x (p % 64)) full ∙ ap (λ n. n == 1) (bit_at_ones 64 (p % 64) (omega arith)))

-- in another word the ones at its lower end are true, and the place after them is false
pub ones_of : (v : List ℕ) (l word p : ℕ) → get_or v l 0 ≡ word → word + 1 < 2 ^ 64 → 64 * l ≤ p → p < 64 * l + trailing_ones w64 word → lane_bit p v ≡ true
unfolding lane_bit
ones_of v l word p is less low high =
    let facts = bit_at-trailing_ones w64 word less in
    let e : p / 64 ≡ l = omega (arith, low, high, facts.0) in
    let k : p % 64 < trailing_ones w64 word = omega (arith, low, high, facts.0) in
    ap (λ i. bit_test (get_or v i 0) (p % 64)) e ∙ (ap (λ x. bit_test x (p % 64)) is ∙ ap (λ n. n == 1) (facts.2 (p % 64) k))

pub end_of_ones : (v : List ℕ) (l word : ℕ) → get_or v l 0 ≡ word → word + 1 < 2 ^ 64 → lane_bit (64 * l + trailing_ones w64 word) v ≡ false
unfolding lane_bit
end_of_ones v l word is less =
    let facts = bit_at-trailing_ones w64 word less in
    let p : ℕ = 64 * l + trailing_ones w64 word in
    let e : p / 64 ≡ l = omega (arith, facts.0) in
    let k : p % 64 ≡ trailing_ones w64 word = omega (arith, facts.0) in
    ap (λ i. bit_test (get_or v i 0) (p % 64)) e ∙ (ap (λ x. bit_test x (p % 64)) is ∙ (ap (bit_test word) k ∙ ap (λ n. n == 1) facts.1))
