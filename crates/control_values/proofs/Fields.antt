-- The place of a field, and its number.
use Rattle.std.proofs.Common.{◌≡◌, ℕ, ◌+◌, ◌≤◌, Bool, true, false, List, [], ◌∷◌, Option, Some, None, if◌then◌else◌, refl, sym, subst, arith}
use Rattle.std.specs.List.{AllByRecursion}
use Rattle.net_fields.specs.declared.field_specs.BitRange.{BitRange}
use Rattle.net_fields.specs.declared.field_specs.FieldSpec.{FieldSpec}
use Rattle.net_fields.specs.Spelling.{spelt}
use Rattle.net_fields.specs.FieldSpecs.{decoded, is_name, number_among, place_from}
use Rattle.net_fields.proofs.Places.{place_of}
use Rattle.control_values.specs.Given.{AreNear, field_at}

at_first : (b : Bool) (here : BitRange) (there : Option BitRange) (p : BitRange) (P : BitRange → Type 0) → (if b then Some here else there) ≡ Some p
    → P here → (there ≡ Some p → P p) → P p
at_first true here there p P e h k = subst P (grind (arith, e)) h
at_first false here there p P e h k = k e

few_at : (ss : List FieldSpec) (first name : ℕ) (p : BitRange) → AllByRecursion (λ (s : FieldSpec). s.bits ≤ 4) ss → place_from ss first name ≡ Some p → p.bits ≤ 4
few_at [] first name p h e = cc
few_at (s ∷ ss) first name p h e =
    at_first (is_name s.name name) (record { first = first; bits = s.bits }) (place_from ss (first + s.bits) name) p (λ q. q.bits ≤ 4) e h.0 (λ later. few_at ss (first + s.bits) name p h.1 later)

pub few_bits : (ss : List FieldSpec) (name : ℕ) (p : BitRange) → AreNear ss → place_from ss 0 name ≡ Some p → p.bits ≤ 4
few_bits ss name p h e = few_at ss 0 name p h.few e

pub near_first : (ss : List FieldSpec) (name : ℕ) (p : BitRange) → AreNear ss → place_from ss 0 name ≡ Some p → p.first ≤ 1000
near_first ss name p h e = let within = (place_of ss name p e).within in let near = h.near in omega (arith, within, near)

pub number_there : (ss : List FieldSpec) (w : List Bool) (name : ℕ) (p : BitRange) → place_from ss 0 name ≡ Some p → spelt w p.first p.bits ≡ field_at ss w name
number_there ss w name p e = sym ((place_of ss name p e).spells w)

none_from : (ss : List FieldSpec) (first : ℕ) (w : List Bool) (name : ℕ) → place_from ss first name ≡ None → 0 ≡ number_among ss (decoded ss first w) name
none_from [] first w name e = refl
none_from (s ∷ ss) first w name e = by (none_from ss (first + s.bits) w name) (is_name s.name name) refl e
  where
    by : (place_from ss (first + s.bits) name ≡ None → 0 ≡ number_among ss (decoded ss (first + s.bits) w) name) →
        (b : Bool) → is_name s.name name ≡ b → (if b then Some (record { first = first; bits = s.bits }) else place_from ss (first + s.bits) name) ≡ None →
        0 ≡ number_among (s ∷ ss) (decoded (s ∷ ss) first w) name
    by rest true q f = cc
    by rest false q f = rw q (rest f)

pub number_nowhere : (ss : List FieldSpec) (w : List Bool) (name : ℕ) → place_from ss 0 name ≡ None → 0 ≡ field_at ss w name
number_nowhere ss w name e = none_from ss 0 w name e
