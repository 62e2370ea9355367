-- Texts of lines.
use Rattle.std.proofs.Common.{◌≡◌, ℕ, ◌+◌, ◌-◌, ◌^◌, ◌<◌, ◌≤◌, List, [], ◌∷◌, ◌++◌, length, take, get_or, replicate, refl, sym, ap, ◌∙◌, append_assoc, arith}
use Rattle.std.proofs.lemmas.List.{append-nil, take_all, take_more}
use Rattle.std.proofs.lemmas.Fmt.{decimal_nonempty}
use Rattle.std.specs.Fmt.{decimal}
use Rattle.y86_base.specs.Numeral.{numeral}
use Rattle.cert_checker.specs.Lines.{numbers_text}
use Rattle.cert_writer.specs.Writing.{spaced}

numeral_decimal : (n : ℕ) → n < 2 ^ 64 → numeral 10 1 n ≡ decimal n
unfolding numeral
numeral_decimal n h = (let some = decimal_nonempty n h in let none : 1 - length (decimal n) ≡ 0 = omega (arith, some) in ap (λ k. replicate k 48 ++ decimal n) none)

pub number_put : (old middle new : List ℕ) (n : ℕ) → n < 2 ^ 64 → middle ≡ old ++ 32 ∷ [] → new ≡ middle ++ numeral 10 1 n → new ≡ old ++ 32 ∷ decimal n
number_put old middle new n h e f = f ∙ (λ i. e i ++ numeral_decimal n h i) ∙ append_assoc old (32 ∷ []) (decimal n)

spaced_push : (ns : List ℕ) (n : ℕ) → spaced (ns ++ n ∷ []) ≡ spaced ns ++ 32 ∷ decimal n
unfolding spaced
spaced_push [] n = ap (λ (xs : List ℕ). 32 ∷ xs) (append-nil (decimal n))
spaced_push (m ∷ ns) n = ap (λ (xs : List ℕ). 32 ∷ xs) (ap (λ (xs : List ℕ). decimal m ++ xs) (spaced_push ns n) ∙ sym (append_assoc (decimal m) (spaced ns) (32 ∷ decimal n)))

spaced_text : (ns : List ℕ) → spaced ns ++ 10 ∷ [] ≡ numbers_text ns
unfolding spaced
spaced_text [] = refl
spaced_text (n ∷ ns) = ap (λ (xs : List ℕ). 32 ∷ xs) (append_assoc (decimal n) (spaced ns) (10 ∷ []) ∙ ap (λ (xs : List ℕ). decimal n ++ xs) (spaced_text ns))

pub numbers_start : (old new ns : List ℕ) (letter : ℕ) → new ≡ old ++ letter ∷ [] → new ≡ old ++ letter ∷ spaced (take 0 ns)
unfolding spaced
numbers_start old new ns letter e = e

pub numbers_more : (old middle new ns : List ℕ) (letter i : ℕ) → i < length ns → middle ≡ old ++ letter ∷ spaced (take i ns) → new ≡ middle ++ 32 ∷ decimal (get_or ns i 0) →
    new ≡ old ++ letter ∷ spaced (take (i + 1) ns)
numbers_more old middle new ns letter i h e f =
    f ∙ ap (λ (xs : List ℕ). xs ++ 32 ∷ decimal (get_or ns i 0)) e
    ∙ append_assoc old (letter ∷ spaced (take i ns)) (32 ∷ decimal (get_or ns i 0))
    ∙ ap (λ (xs : List ℕ). old ++ letter ∷ xs) (sym (spaced_push (take i ns) (get_or ns i 0)) ∙ ap spaced (sym (take_more ns i 0 h)))

pub numbers_end : (old middle new ns : List ℕ) (letter i : ℕ) → length ns ≤ i → middle ≡ old ++ letter ∷ spaced (take i ns) → new ≡ middle ++ 10 ∷ [] → new ≡ old ++ letter ∷ numbers_text ns
numbers_end old middle new ns letter i h e f =
    f ∙ ap (λ (xs : List ℕ). xs ++ 10 ∷ []) e
    ∙ append_assoc old (letter ∷ spaced (take i ns)) (10 ∷ [])
    ∙ ap (λ (xs : List ℕ). old ++ letter ∷ xs) (ap (λ (xs : List ℕ). spaced xs ++ 10 ∷ []) (take_all i ns h) ∙ spaced_text ns)
