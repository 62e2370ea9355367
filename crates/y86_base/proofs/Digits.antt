-- The digits of a number, written from the last to the first.
use Rattle.std.proofs.Common.{◌≡◌, ℕ, zero, suc, ◌+◌, ◌-◌, ◌/◌, ◌%◌, ◌<◌, ◌≤◌, Bool, true, false, cond, List, [], ◌∷◌, ◌++◌, length, take, drop, replicate, min, eqb, refl, ap, sym, ◌∙◌, arith}
use Rattle.std.proofs.Math.ListN.{set}
use Rattle.std.proofs.lemmas.List.{drop-set, take-take, take-append-drop, drop-append-le, take-replicate, drop-replicate, length-replicate, length-drop}
use Rattle.std.specs.Fmt.{digit_glyph, digits_onto, digits}
use borrow.Author.Tests.{eq-eqb, ne_eqb}

pub digits_onto-nothing : (base n : ℕ) → digits_onto 64 base false n [] ≡ digits base false n
unfolding digits
digits_onto-nothing base n = refl

-- the last digit goes in front of those already written, with space for `room` digits
turn : (base n : ℕ) (behind : List ℕ) (room : ℕ) (t : Bool) → eqb (n / base) 0 ≡ t →
    digits_onto (suc room) base false n behind
    ≡ cond t (digit_glyph false (n % base) ∷ behind) (digits_onto room base false (n / base) (digit_glyph false (n % base) ∷ behind))
turn base n behind room t e =
    ap (λ (b : Bool). cond b (digit_glyph false (n % base) ∷ behind) (digits_onto room base false (n / base) (digit_glyph false (n % base) ∷ behind))) e

pub digits_onto-last : (base n : ℕ) (behind : List ℕ) (at : ℕ) → 0 < at → n / base ≡ 0 →
    digits_onto at base false n behind ≡ digit_glyph false (n % base) ∷ behind
digits_onto-last base n behind zero h e = absurd (omega arith)
digits_onto-last base n behind (suc room) h e = turn base n behind room true (eq-eqb _ 0 e)

pub digits_onto-more : (base n : ℕ) (behind : List ℕ) (at : ℕ) → 0 < at → (n / base ≡ 0 → ⊥) →
    digits_onto at base false n behind ≡ digits_onto (at - 1) base false (n / base) (digit_glyph false (n % base) ∷ behind)
digits_onto-more base n behind zero h e = absurd (omega arith)
digits_onto-more base n behind (suc room) h e =
    turn base n behind room false (ne_eqb _ 0 e)
    ∙ ap (λ (j : ℕ). digits_onto j base false (n / base) (digit_glyph false (n % base) ∷ behind)) {x = room} {y = suc room - 1} (omega arith)

-- after a byte is set in front of position `at`, the bytes from there are it and those from `at`
pub placed : (xs : List ℕ) (at byte : ℕ) → 0 < at → at ≤ length xs → drop (at - 1) (set xs (at - 1) byte) ≡ byte ∷ drop at xs
placed xs at byte some within =
    let lt : at - 1 < length xs = omega arith in
    let e : at - 1 + 1 ≡ at = omega arith in
    drop-set xs (at - 1) byte lt ∙ ap (λ (k : ℕ). byte ∷ drop k xs) e

pub shorter_front : (xs ys : List ℕ) (at : ℕ) → take at xs ≡ take at ys → take (at - 1) xs ≡ take (at - 1) ys
shorter_front xs ys at e = sym (take-take (at - 1) at xs (omega arith)) ∙ ap (take (at - 1)) e ∙ take-take (at - 1) at ys (omega arith)

-- text at the end of a buffer that is filled with `0` before it, from the position that gives it its least width
pub padded : (bytes text : List ℕ) (size at least : ℕ) → at ≤ size → length bytes ≡ size → least ≤ size →
    drop at bytes ≡ text → take at bytes ≡ take at (replicate size 48) →
    drop (min at (size - least)) bytes ≡ replicate (least - length text) 48 ++ text
padded bytes text size at least within long fits behind before =
    let start = min at (size - least) in
    let front : take at bytes ≡ replicate at 48 = before ∙ take-replicate at size 48 within in
    let inside : start ≤ length (replicate {A = ℕ} at 48) = omega (arith, length-replicate {A = ℕ}) in
    let whole : bytes ≡ replicate at 48 ++ text = sym (take-append-drop at bytes) ∙ (λ i. front i ++ behind i) in
    let size_of : length text ≡ size - at = sym (ap length behind) ∙ length-drop at bytes ∙ ap (λ n. n - at) long in
    let width : at - start ≡ least - length text = omega arith in
    ap (drop start) {x = bytes} {y = replicate at 48 ++ text} whole ∙ drop-append-le start (replicate at 48) text inside ∙ ap (λ xs. xs ++ text) {x = drop start (replicate at 48)} {y = replicate (at - start) 48} (drop-replicate start at 48)
    ∙ ap (λ n. replicate n 48 ++ text) width
