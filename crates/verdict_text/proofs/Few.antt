-- Numbers that few bits spell fit a word; and a line whose beginning is put in two parts.
use Rattle.std.proofs.Common.{◌≡◌, ℕ, ◌+◌, ◌*◌, ◌%◌, ◌^◌, ◌≤◌, ◌<◌, Bool, true, false, List, ◌++◌, append_assoc, codes, get_or, refl, sym, ap, ◌∙◌, arith}
use Rattle.std.specs.Int.{from_bool}
use Rattle.std.proofs.Math.Nat.{pow-le-pow_right}
use Rattle.net_fields.proofs.Loops.{number_more}
use Rattle.net_fields.proofs.Patterns.{spelt_lt}
use Rattle.net_fields.specs.Spelling.{spelt, bit}
use Rattle.verdict_text.specs.Fields.{Labelled, labelled, labelled_line}

pub one_more : (w : List Bool) (first k n x : ℕ) (b : Bool) → n ≡ spelt w first k % 2 ^ 64 → b ≡ get_or w (first + k) false → x ≡ from_bool b → (n * 2 % 2 ^ 64 + x) % 2 ^ 64 ≡ spelt w first (k + 1) % 2 ^ 64
one_more w first k n x true e f g = let more = number_more w first k (spelt w first k) 1 refl (ap bit f) in omega (arith, e, more, g)
one_more w first k n x false e f g = let more = number_more w first k (spelt w first k) 0 refl (ap bit f) in omega (arith, e, more, g)

pub spelt_few : (w : List Bool) (first bits : ℕ) → bits ≤ 4 → spelt w first bits % 2 ^ 64 ≡ spelt w first bits
spelt_few w first bits few = let most : 2 ^ bits ≤ 2 ^ 4 = pow-le-pow_right {n = 2} (omega arith) {i = bits} {j = 4} few in omega (arith, spelt_lt w first bits, most)

pub stage_text : (old letter word : List ℕ) (numbers : List Labelled) → (old ++ letter) ++ labelled_line word numbers ≡ old ++ labelled_line (letter ++ word) numbers
unfolding labelled_line
stage_text old letter word numbers =
    append_assoc old letter (word ++ labelled numbers ++ codes "\n")
    ∙ ap (λ (xs : List ℕ). old ++ xs)
    (sym (append_assoc letter (word ++ labelled numbers) (codes "\n")) ∙ ap (λ (xs : List ℕ). xs ++ codes "\n") (sym (append_assoc letter word (labelled numbers))))
