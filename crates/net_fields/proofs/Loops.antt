-- The number that bits spell, bit by bit.
use Rattle.std.proofs.Common.{◌≡◌, ℕ, ◌+◌, ◌*◌, ◌^◌, ◌<◌, Bool, true, false, List, get_or, refl, sym, ap, ◌∙◌, arith}
use Rattle.std.proofs.lemmas.Grind.{pow_more}
use Rattle.net_fields.specs.Spelling.{spelt, bit}
use Rattle.net_fields.proofs.Fields.{spelt_suc}

-- no bits
pub number_none : (w : List Bool) (first : ℕ) → 0 ≡ spelt w first 0
unfolding spelt
number_none w first = refl

-- another bit
pub number_more : (w : List Bool) (first k n x : ℕ) → n ≡ spelt w first k → x ≡ bit (get_or w (first + k) false) → 2 * n + x ≡ spelt w first (k + 1)
number_more w first k n x e f =
    ap (λ (m : ℕ). 2 * m + x) e ∙ (ap (λ (m : ℕ). 2 * spelt w first k + m) f ∙ sym (spelt_suc w first (k + 1) k (omega arith)))

-- and the number fits in the bits
pub number_small : (k n x : ℕ) (b : Bool) → n < 2 ^ k → x ≡ bit b → 2 * n + x < 2 ^ (k + 1)
number_small k n x true h e = let p = pow_more 2 k in omega (arith, h, e, p)
number_small k n x false h e = let p = pow_more 2 k in omega (arith, h, e, p)
