-- Words that are shifted down by one place, and words in vectors.
use Rattle.std.proofs.Common.{◌≡◌, ◌⊎◌, inl, inr, ℕ, suc, ◌+◌, ◌/◌, ◌%◌, ◌<◌, Bool, false, ◌==◌, if◌then◌else◌, List, [], length, get_or, set, sym, ap, ◌∙◌, arith}
use Rattle.std.specs.Int.{bit_at}
use Rattle.std.proofs.lemmas.Nat.Bits.{bit_at-suc}
use Rattle.std.proofs.lemmas.Bool.{cases_eq}
use Rattle.std.proofs.lemmas.List.{get_or-set_same, get_or-set_other, get_or-map, length-map, ext_get_or}
use Rattle.lane_eval.specs.Lanes.{bit_test, lane_bit, across, along}
use Rattle.lane_eval.proofs.Written.{chosen_same, chosen_other}

pub shifted_top : (word result : ℕ) (truth : Bool) → ((j : ℕ) → j < 64 → bit_test result j ≡ (if j == 63 then truth else bit_test (word / 2) j)) → bit_test result 63 ≡ truth
shifted_top word result truth is = is 63 (omega arith)

pub shifted_rest : (word result : ℕ) (truth : Bool) → ((j : ℕ) → j < 64 → bit_test result j ≡ (if j == 63 then truth else bit_test (word / 2) j))
    → (j : ℕ) → j < 63 → bit_test result j ≡ bit_test word (j + 1)
shifted_rest word result truth is j h =
    let next : j + 1 ≡ suc j = omega arith in
    is j (omega (arith, h)) ∙ (chosen_other j 63 truth (bit_test (word / 2) j) (omega (arith, h))
    ∙ (ap (λ n. n == 1) (sym (bit_at-suc word j)) ∙ ap (bit_test word) (sym next)))

-- one word of a vector is written
pub word_set : (v : List ℕ) (l q word : ℕ) → length v ≡ 8 → l < 8 → q < 512
    → lane_bit q (set v l word) ≡ (if q / 64 == l then bit_test word (q % 64) else lane_bit q v)
unfolding lane_bit
word_set v l q word size hl hq = by (cases_eq (q / 64) l)
  where
    by : ((q / 64) ≡ l) ⊎ ((q / 64) ≡ l → ⊥) → bit_test (get_or (set v l word) (q / 64) 0) (q % 64) ≡ (if q / 64 == l then bit_test word (q % 64) else bit_test (get_or v (q / 64) 0) (q % 64))
    by (inl same) =
        ap (λ x. bit_test (get_or (set v l word) x 0) (q % 64)) same
        ∙ (ap (λ x. bit_test x (q % 64)) (get_or-set_same v l word 0 (omega (arith, size, hl))) ∙ sym (chosen_same (q / 64) l _ _ same))
    by (inr other) = ap (λ x. bit_test x (q % 64)) (get_or-set_other v l (q / 64) word 0 other) ∙ sym (chosen_other (q / 64) l _ _ other)

-- each word has the truth of its place
pub along_whole : (j : ℕ) (words : List ℕ) (truths : List Bool) → length truths ≡ length words
    → ((u : ℕ) → u < length words → bit_test (get_or words u 0) j ≡ get_or truths u false) → along j words ≡ truths
along_whole j words truths size each =
    ext_get_or false (along j words) truths (length-map words (λ word. bit_test word j) ∙ sym size)
    (λ i h.
    let small : i < length words = omega (arith, h, length-map words (λ word. bit_test word j)) in
    get_or-map (λ word. bit_test word j) words i 0 false small ∙ each i small)

pub along_others : (j k : ℕ) (words old : List ℕ) → length words ≡ length old
    → ((u : ℕ) → u < length words → bit_test (get_or words u 0) j ≡ bit_test (get_or old u 0) k) → along j words ≡ along k old
along_others j k words old size each =
    along_whole j words (along k old) (length-map old (λ word. bit_test word k) ∙ sym size)
    (λ u h. each u h ∙ sym (get_or-map (λ word. bit_test word k) old u 0 false (omega (arith, h, size))))

-- each vector has the truth of a word's place
pub across_words : (q j : ℕ) (vs : List (List ℕ)) (words : List ℕ) → length words ≡ length vs
    → ((u : ℕ) → u < length vs → lane_bit q (get_or vs u []) ≡ bit_test (get_or words u 0) j) → across q vs ≡ along j words
across_words q j vs words size each =
    ext_get_or false (across q vs) (along j words) (length-map vs (lane_bit q) ∙ (sym size ∙ sym (length-map words (λ word. bit_test word j))))
    (λ i h.
    let small : i < length vs = omega (arith, h, length-map vs (lane_bit q)) in
    get_or-map (lane_bit q) vs i [] false small ∙ (each i small ∙ sym (get_or-map (λ word. bit_test word j) words i 0 false (omega (arith, small, size)))))
