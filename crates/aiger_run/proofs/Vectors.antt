-- Draws and vectors, one input after another.
use Rattle.std.proofs.Common.{◌≡◌, ℕ, ◌+◌, ◌-◌, ◌/◌, ◌%◌, ◌^◌, ◌<◌, ◌≤◌, Bool, true, false, ◌==◌, nat_lt, if◌then◌else◌, List, [], ◌∷◌, ◌++◌, length, set, take, refl, sym, ap, ◌∙◌, arith, add-one}
use Rattle.std.proofs.lemmas.Bool.Decides.{nat_tests}
use Rattle.std.proofs.lemmas.List.{take_all, take_more_set}
use Rattle.prog_gen.specs.Draws.{lcg_next, lcg_output}
use Rattle.aiger_run.specs.Vectors.{bit_behind, vector, word_behind}

-- no draw before the tenth input
pub drawn_none : (word k old : ℕ) → k < 9 → old ≡ word_behind word (k - 9) → old ≡ word_behind word (k + 1 - 9)
drawn_none word k old low e = e ∙ ap (word_behind word) (omega (arith, low))

next_word : (word n : ℕ) → word_behind word (n + 1) ≡ lcg_next (word_behind word n)
unfolding word_behind
next_word word n = rw add-one refl

pub drawn_more : (word k old new : ℕ) → 9 ≤ k → old ≡ word_behind word (k - 9) → new ≡ lcg_next old → new ≡ word_behind word (k + 1 - 9)
drawn_more word k old new high e f =
    let s : (k - 9) + 1 ≡ k + 1 - 9 = omega (arith, high) in
    f ∙ (ap lcg_next e ∙ (sym (next_word word (k - 9)) ∙ ap (word_behind word) s))

pub low_bit : (word i k : ℕ) → k < 9 → bit_behind word i k ≡ ((i / 2 ^ k) % 2 == 1)
low_bit word i k low = let e : nat_lt k 9 ≡ true = grind (arith, nat_tests) in ap (λ (b : Bool). if b then (i / 2 ^ k) % 2 == 1 else lcg_output (word_behind word (k - 8)) % 2 == 1) e

pub high_bit : (word i k old new : ℕ) → 9 ≤ k → old ≡ word_behind word (k - 9) → new ≡ lcg_next old → bit_behind word i k ≡ (lcg_output new % 2 == 1)
high_bit word i k old new high e f =
    let t : nat_lt k 9 ≡ false = grind (arith, nat_tests) in
    let s : k + 1 - 9 ≡ k - 8 = omega arith in
    ap (λ (b : Bool). if b then (i / 2 ^ k) % 2 == 1 else lcg_output (word_behind word (k - 8)) % 2 == 1) t
    ∙ sym (ap (λ (n : ℕ). lcg_output n % 2 == 1) (drawn_more word k old new high e f ∙ ap (word_behind word) s))

pub vector_none : (seed i : ℕ) (bits : List Bool) → take 0 bits ≡ vector seed i 0
unfolding vector
vector_none seed i bits = refl

next_vector : (seed i n : ℕ) → vector seed i (n + 1) ≡ vector seed i n ++ bit_behind ((seed + i) % 2 ^ 64) i n ∷ []
unfolding vector
next_vector seed i n = rw add-one refl

pub vector_more : (seed i k : ℕ) (bits : List Bool) (bit : Bool) → k < length bits → take k bits ≡ vector seed i k → bit ≡ bit_behind ((seed + i) % 2 ^ 64) i k
    → take (k + 1) (set bits k bit) ≡ vector seed i (k + 1)
vector_more seed i k bits bit l e f =
    take_more_set bits k bit l ∙ (ap (λ (xs : List Bool). xs ++ bit ∷ []) e ∙ (ap (λ (b : Bool). vector seed i k ++ b ∷ []) f ∙ sym (next_vector seed i k)))

pub vector_all : (seed i k : ℕ) (bits : List Bool) → length bits ≡ k → take k bits ≡ vector seed i k → bits ≡ vector seed i k
vector_all seed i k bits size e = sym (take_all k bits (omega (arith, size))) ∙ e

pub start_word : (w x : ℕ) → w ≡ x → w ≡ word_behind x 0
unfolding word_behind
start_word w x e = e
