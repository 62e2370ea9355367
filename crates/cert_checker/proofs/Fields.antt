-- The numbers of a line, one after another.
use Rattle.std.proofs.Common.{◌≡◌, ℕ, zero, suc, ◌+◌, ◌^◌, ◌<◌, false, List, [], ◌∷◌, ◌++◌, length, take, drop, get_or, Some, None, refl, sym, ap, ◌∙◌, subst, append_assoc, arith}
use Rattle.std.proofs.Math.ListN.{set}
use Rattle.std.proofs.lemmas.List.{append-nil, drop_more, take_more, take_more_set}
use Rattle.std.proofs.lemmas.Option.{none-some, same_Some}
use Rattle.std.specs.Fmt.{decimal}
use Rattle.y86_base.specs.Text.{after_byte, begins, is_decimal}
use Rattle.cert_checker.specs.Lines.{AreWords, numbers_text}

pub word_at : (ns : List ℕ) → AreWords ns → (i : ℕ) → i < length ns → get_or ns i 0 < 2 ^ 64
word_at [] h i within = absurd (omega (arith, within))
word_at (n ∷ ns) h zero within = h.0
word_at (n ∷ ns) h (suc i) within = word_at ns h.1 i (omega (arith, within))

words_push : (ns : List ℕ) (n : ℕ) → AreWords ns → n < 2 ^ 64 → AreWords (ns ++ n ∷ [])
words_push [] n h small = (small, tt)
words_push (m ∷ ns) n h small = (h.0, words_push ns n h.1 small)

pub words_more : (ns : List ℕ) (i n : ℕ) → i < length ns → AreWords (take i ns) → n < 2 ^ 64 → AreWords (take (i + 1) (set ns i n))
words_more ns i n within h small = subst AreWords (sym (take_more_set ns i n within)) (words_push (take i ns) n h small)

-- no digit follows a number
pub stops : (ns t : List ℕ) → begins is_decimal (numbers_text ns ++ t) ≡ false
stops [] t = refl
stops (n ∷ ns) t = refl

-- the next number, with the blank before it
pub next_is : (ns t rest : List ℕ) (i : ℕ) → i < length ns → rest ≡ numbers_text (drop i ns) ++ t →
    rest ≡ 32 ∷ (decimal (get_or ns i 0) ++ (numbers_text (drop (i + 1) ns) ++ t))
next_is ns t rest i within e =
    e ∙ ap (λ (xs : List ℕ). numbers_text xs ++ t) (drop_more ns i 0 within)
    ∙ ap (λ (xs : List ℕ). 32 ∷ xs) (append_assoc (decimal (get_or ns i 0)) (numbers_text (drop (i + 1) ns)) t)

pub no_blank : (rest xs : List ℕ) → None ≡ after_byte 32 rest → rest ≡ 32 ∷ xs → ⊥
no_blank rest xs none e = none-some xs (none ∙ ap (after_byte 32) e)

-- the bytes after the blank are read as the number
pub behind_blank : (rest behind xs : List ℕ) → Some behind ≡ after_byte 32 rest → rest ≡ 32 ∷ xs → behind ≡ xs
behind_blank rest behind xs some e = same_Some behind xs (some ∙ ap (after_byte 32) e)

-- one more number is found
pub found_more : (bytes rest behind tail : List ℕ) (numbers : List ℕ) (i n : ℕ) → i < length numbers → rest ≡ 32 ∷ behind → behind ≡ decimal n ++ tail →
    ((more t : List ℕ) → rest ≡ numbers_text more ++ t → bytes ≡ numbers_text (take i numbers ++ more) ++ t) →
    (more t : List ℕ) → tail ≡ numbers_text more ++ t → bytes ≡ numbers_text (take (i + 1) (set numbers i n) ++ more) ++ t
found_more bytes rest behind tail numbers i n within blank number found more t e =
    let whole : rest ≡ numbers_text (n ∷ more) ++ t =
    blank ∙ ap (λ (xs : List ℕ). 32 ∷ xs) (number ∙ ap (λ (xs : List ℕ). decimal n ++ xs) e ∙ sym (append_assoc (decimal n) (numbers_text more) t)) in
    let front : take i numbers ++ (n ∷ more) ≡ take (i + 1) (set numbers i n) ++ more =
    sym (append_assoc (take i numbers) (n ∷ []) more) ∙ ap (λ (xs : List ℕ). xs ++ more) (sym (take_more_set numbers i n within)) in
    found (n ∷ more) t whole ∙ ap (λ (xs : List ℕ). numbers_text xs ++ t) front

-- the whole line, if its end follows the last number
pub found_all : (bytes rest behind : List ℕ) (numbers : List ℕ) (i : ℕ) → rest ≡ 10 ∷ behind →
    ((more t : List ℕ) → rest ≡ numbers_text more ++ t → bytes ≡ numbers_text (take i numbers ++ more) ++ t) → bytes ≡ numbers_text (take i numbers) ++ behind
found_all bytes rest behind numbers i end found =
    found [] behind end ∙ ap (λ (xs : List ℕ). numbers_text xs ++ behind) (append-nil (take i numbers))

pub only_more : (numbers ns : List ℕ) (i n : ℕ) → i < length numbers → i < length ns → take i numbers ≡ take i ns → n ≡ get_or ns i 0 →
    take (i + 1) (set numbers i n) ≡ take (i + 1) ns
only_more numbers ns i n within inside same is =
    take_more_set numbers i n within ∙ (λ x. same x ++ is x ∷ []) ∙ sym (take_more ns i 0 inside)
