-- One place of vectors, through each operation of gates.
use Rattle.std.proofs.Common.{◌≡◌, ℕ, zero, suc, ◌-◌, ◌/◌, ◌%◌, ◌^◌, ◌<◌, min, true, false, not, ◌&&◌, ◌==◌, List, map, length, get_or, replicate, refl, ap, ◌∙◌, arith, w64, Fits, bit_and}
use Rattle.std.specs.Int.{bit_at}
use Rattle.std.specs.Simd.Lanes.{zip2, Each1}
use Rattle.std.proofs.lemmas.Nat.Bits.{bit_at_and, bit_at_not, bit_at_ones, bit_at-zero, bit_at-lt}
use Rattle.std.proofs.lemmas.List.{get_or-map}
use Rattle.std.proofs.lemmas.Simd.{get_or-zip2, get_or-replicate, Each1-get_or}
use Rattle.lane_eval.specs.Lanes.{lane_bit}

-- a bit is 0 or 1
bit_cases : (P : ℕ → Type 0) → P 0 → P 1 → (x : ℕ) → x < 2 → P x
bit_cases P p q zero h = p
bit_cases P p q (suc zero) h = q
bit_cases P p q (suc (suc r)) h = absurd (omega (arith, h))

two_bits : (P : ℕ → ℕ → Type 0) → P 0 0 → P 0 1 → P 1 0 → P 1 1 → (a b i : ℕ) → P (bit_at a i) (bit_at b i)
two_bits P p q r s a b i =
    bit_cases (λ x. P x (bit_at b i)) (bit_cases (P 0) p q (bit_at b i) (bit_at-lt b i)) (bit_cases (P 1) r s (bit_at b i) (bit_at-lt b i)) (bit_at a i) (bit_at-lt a i)

test_and : (a b i : ℕ) → (bit_at (bit_and a b) i == 1) ≡ ((bit_at a i == 1) && (bit_at b i == 1))
test_and a b i = ap (λ n. n == 1) (bit_at_and a b i) ∙ two_bits (λ x y. (min x y == 1) ≡ ((x == 1) && (y == 1))) refl refl refl refl a b i

test_not : (a i : ℕ) → a < 2 ^ 64 → i < 64 → (bit_at (2 ^ 64 - 1 - a) i == 1) ≡ not (bit_at a i == 1)
test_not a i ha hi = ap (λ n. n == 1) (bit_at_not w64 a i ha hi) ∙ bit_cases (λ x. ((1 - x) == 1) ≡ not (x == 1)) refl refl (bit_at a i) (bit_at-lt a i)

word_of : (p : ℕ) → p < 512 → p / 64 < 8
word_of p h = omega (arith, h)

bit_of : (p : ℕ) → p % 64 < 64
bit_of p = omega arith

pub place_and : (p : ℕ) (a b : List ℕ) → p < 512 → length a ≡ 8 → length b ≡ 8 → lane_bit p (zip2 bit_and a b) ≡ (lane_bit p a && lane_bit p b)
unfolding lane_bit
place_and p a b h la lb =
    ap (λ n. bit_at n (p % 64) == 1) (get_or-zip2 bit_and a b (p / 64) 0 0 0 (omega (arith, word_of p h, la)) (omega (arith, word_of p h, lb)))
    ∙ test_and (get_or a (p / 64) 0) (get_or b (p / 64) 0) (p % 64)

pub place_not : (p : ℕ) (a : List ℕ) → p < 512 → length a ≡ 8 → Each1 (Fits w64) a → lane_bit p (map (λ x. 2 ^ 64 - 1 - x) a) ≡ not (lane_bit p a)
unfolding lane_bit
place_not p a h size words =
    let within : p / 64 < length a = omega (arith, word_of p h, size) in
    let word : Fits w64 (get_or a (p / 64) 0) = Each1-get_or (Fits w64) a (p / 64) 0 within words in
    ap (λ n. bit_at n (p % 64) == 1) (get_or-map (λ x. 2 ^ 64 - 1 - x) a (p / 64) 0 0 within)
    ∙ test_not (get_or a (p / 64) 0) (p % 64) word.fits (bit_of p)

pub place_all : (p : ℕ) → p < 512 → lane_bit p (replicate 8 (2 ^ 64 - 1)) ≡ true
unfolding lane_bit
place_all p h =
    ap (λ n. bit_at n (p % 64) == 1) (get_or-replicate 8 (p / 64) (2 ^ 64 - 1) 0 (word_of p h))
    ∙ ap (λ n. n == 1) (bit_at_ones 64 (p % 64) (bit_of p))

pub place_none : (p : ℕ) → p < 512 → lane_bit p (replicate 8 0) ≡ false
unfolding lane_bit
place_none p h =
    ap (λ n. bit_at n (p % 64) == 1) (get_or-replicate 8 (p / 64) 0 0 (word_of p h))
    ∙ ap (λ n. n == 1) (bit_at-zero (p % 64))
