-- The place of a signal's field.
use Rattle.std.proofs.Common.{◌≡◌, ℕ, ◌+◌, ◌≤◌, Bool, true, false, List, [], ◌∷◌, Option, Some, if◌then◌else◌, refl, ap, subst, arith}
use Rattle.net_fields.specs.declared.field_specs.BitRange.{BitRange}
use Rattle.net_fields.specs.declared.field_specs.FieldSpec.{FieldSpec}
use Rattle.net_fields.specs.Laws.{IsPlaceOf}
use Rattle.net_fields.specs.Spelling.{spelt}
use Rattle.net_fields.specs.FieldSpecs.{total, decoded, is_name, number_among, place_from}

-- the first field of a table is the signal's, or a later one is
by_first : (b : Bool) (x y : ℕ) (here : BitRange) (there : Option BitRange) (p : BitRange) (n : ℕ) → (if b then Some here else there) ≡ Some p
    → (b ≡ true → here ≡ p → x ≡ n) → (b ≡ false → there ≡ Some p → y ≡ n) → (if b then x else y) ≡ n
by_first true x y here there p n e h k = h refl (grind (arith, e))
by_first false x y here there p n e h k = k refl e

number_at : (ss : List FieldSpec) (first name : ℕ) (w : List Bool) (p : BitRange) → place_from ss first name ≡ Some p → number_among ss (decoded ss first w) name ≡ spelt w p.first p.bits
number_at [] first name w p e = cc
number_at (s ∷ ss) first name w p e =
    by_first (is_name s.name name) _ _ _ _ p (spelt w p.first p.bits) e
    (λ b at. ap (λ (q : BitRange). spelt w q.first q.bits) at)
    (λ b later. number_at ss (first + s.bits) name w p later)

at_first : (b : Bool) (here : BitRange) (there : Option BitRange) (p : BitRange) (P : BitRange → Type 0) → (if b then Some here else there) ≡ Some p
    → P here → (there ≡ Some p → P p) → P p
at_first true here there p P e h k = subst P (grind (arith, e)) h
at_first false here there p P e h k = k e

within_at : (ss : List FieldSpec) (first name : ℕ) (p : BitRange) → place_from ss first name ≡ Some p → p.first + p.bits ≤ first + total ss
within_at [] first name p e = cc
within_at (s ∷ ss) first name p e =
    at_first (is_name s.name name) (record { first = first; bits = s.bits }) (place_from ss (first + s.bits) name) p (λ q. q.first + q.bits ≤ first + total (s ∷ ss)) e
    (omega arith)
    (λ later. let h = within_at ss (first + s.bits) name p later in omega (arith, h))

pub place_of : (ss : List FieldSpec) (name : ℕ) (p : BitRange) → place_from ss 0 name ≡ Some p → IsPlaceOf ss name p
place_of ss name p e = record { within = let h = within_at ss 0 name p e in omega arith; spells = λ w. number_at ss 0 name w p e }
