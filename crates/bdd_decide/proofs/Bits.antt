-- The first bits of a valuation: the part that it is in, and which of two valuations is in an earlier part.
use Rattle.std.proofs.Common.{◌≡◌, ℕ, zero, suc, ◌+◌, ◌*◌, ◌/◌, ◌%◌, ◌^◌, ◌<◌, ◌==◌, inl, inr, Bool, true, false, List, [], ◌∷◌, get_or, refl, sym, ap, ◌∙◌, arith}
use Rattle.std.proofs.lemmas.Bool.{cases_lt}
use Rattle.std.proofs.lemmas.Bool.Decides.{nat_tests}
use Rattle.std.proofs.lemmas.List.{get_or_append_left, get_or_push}
use Rattle.net_fields.specs.Spelling.{bit, spell, spelt}
use Rattle.net_fields.proofs.Patterns.{length_spell, spelt_spell, bit_lt}

spelt_step : (w : List Bool) (k : ℕ) → spelt w 0 (suc k) ≡ 2 * spelt w 0 k + bit (get_or w k false)
unfolding spelt
spelt_step w k = let e : 0 + k ≡ k = omega arith in rw e refl

-- a bit of a number, from its half or by itself
pub bit_before : (k n i : ℕ) → i < k → get_or (spell (suc k) n) i false ≡ get_or (spell k (n / 2)) i false
unfolding spell
bit_before k n i lt = get_or_append_left (spell k (n / 2)) ((n % 2 == 1) ∷ []) false i (omega (arith, lt, length_spell k (n / 2)))

pub bit_last : (k n : ℕ) → get_or (spell (suc k) n) k false ≡ (n % 2 == 1)
unfolding spell
bit_last k n = get_or_push (spell k (n / 2)) (n % 2 == 1) false k (length_spell k (n / 2))

odd : (s : ℕ) (b : Bool) → ((2 * s + bit b) % 2 == 1) ≡ b
odd s true = grind (arith, nat_tests)
odd s false = grind (arith, nat_tests)

-- the bits of the number that a valuation spells are the valuation's own
own_bits : (k : ℕ) (w : List Bool) (i : ℕ) → i < k → get_or (spell k (spelt w 0 k)) i false ≡ get_or w i false
own_bits zero w i lt = absurd (omega (arith, lt))
own_bits (suc k) w i lt = elim (cases_lt i k) [
  | inl l ↦ bit_before k (spelt w 0 (suc k)) i l ∙ (ap (λ (n : ℕ). get_or (spell k n) i false) half ∙ own_bits k w i l)
  | inr le ↦ (let e : i ≡ k = omega (arith, lt, le) in rw e (bit_last k (spelt w 0 (suc k)) ∙ last))
]
  where
    half : spelt w 0 (suc k) / 2 ≡ spelt w 0 k
    half = omega (arith, spelt_step w k, bit_lt (get_or w k false))

    last : (spelt w 0 (suc k) % 2 == 1) ≡ get_or w k false
    last = ap (λ (n : ℕ). n % 2 == 1) (spelt_step w k) ∙ odd (spelt w 0 k) (get_or w k false)

pub bit_of_part : (k : ℕ) (w : List Bool) (p i : ℕ) → spelt w 0 k ≡ p → i < k → get_or w i false ≡ get_or (spell k p) i false
bit_of_part k w p i e lt = sym (own_bits k w i lt) ∙ ap (λ (n : ℕ). get_or (spell k n) i false) e

-- valuations with the same first bits are in the same part
pub same_part : (k : ℕ) (u w : List Bool) → ((x : ℕ) → x < k → get_or u x false ≡ get_or w x false) → spelt u 0 k ≡ spelt w 0 k
unfolding spelt
same_part zero u w h = refl
same_part (suc k) u w h =
    spelt_step u k
    ∙ (ap (λ (n : ℕ). 2 * n + bit (get_or u k false)) (same_part k u w (λ x lt. h x (omega (arith, lt))))
    ∙ (ap (λ (b : Bool). 2 * spelt w 0 k + bit b) (h k (omega arith)) ∙ sym (spelt_step w k)))

pub in_part : (k : ℕ) (w : List Bool) (p : ℕ) → p < 2 ^ k → ((i : ℕ) → i < k → get_or w i false ≡ get_or (spell k p) i false) → spelt w 0 k ≡ p
in_part k w p lt h = same_part k w (spell k p) h ∙ spelt_spell k p lt

-- of two valuations the one with 0 where they differ first, among the first bits, is in an earlier part
pub lower : (k : ℕ) (u w : List Bool) (y : ℕ) → y < k → ((x : ℕ) → x < y → get_or w x false ≡ get_or u x false) → get_or u y false ≡ false → get_or w y false ≡ true → spelt u 0 k < spelt w 0 k
lower zero u w y lt same zeros one = absurd (omega (arith, lt))
lower (suc k) u w y lt same zeros one = elim (cases_lt y k) [
  | inl l ↦ omega (arith, lower k u w y l same zeros one, spelt_step u k, spelt_step w k, bit_lt (get_or u k false))
  | inr le ↦ last (omega (arith, lt, le))
]
  where
    last : y ≡ k → spelt u 0 (suc k) < spelt w 0 (suc k)
    last e =
        let equal : spelt u 0 k ≡ spelt w 0 k = same_part k u w (λ x l. sym (same x (omega (arith, l, e)))) in
        let low : bit (get_or u k false) ≡ 0 = ap bit (ap (λ (i : ℕ). get_or u i false) (sym e) ∙ zeros) in
        let high : bit (get_or w k false) ≡ 1 = ap bit (ap (λ (i : ℕ). get_or w i false) (sym e) ∙ one) in
        omega (arith, equal, low, high, spelt_step u k, spelt_step w k)
