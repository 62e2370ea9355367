-- A table of fields that follow one another among the variables: the place of each, its number, and the bits of a line
-- of numbers.
use Rattle.std.specs.Prelude.{ℕ, ◌+◌, ◌^◌, ◌<◌, ◌==◌, List, [], ◌∷◌, ◌++◌, Bool, false, Option, Some, None, if◌then◌else◌}
use Rattle.net_fields.specs.declared.field_specs.BitRange.{BitRange}
use Rattle.net_fields.specs.declared.field_specs.FieldSpec.{FieldSpec}
use Rattle.net_fields.specs.Spelling.{spelt, spell}

-- the number of bits of all fields together
abbrev pub total : List FieldSpec → ℕ
total [] = 0
total (s ∷ ss) = s.bits + total ss

-- the place of a signal's field, if the first field's first bit has this number
abbrev pub is_name : Option ℕ → ℕ → Bool
is_name None name = false
is_name (Some x) name = x == name

abbrev pub place_from : List FieldSpec → ℕ → ℕ → Option BitRange
place_from [] first name = None
place_from (s ∷ ss) first name = if is_name s.name name then Some (record { first = first; bits = s.bits }) else place_from ss (first + s.bits) name

-- the number that a line of numbers gives the field of a signal, and 0 for a signal that is no field
abbrev pub number_among : List FieldSpec → List ℕ → ℕ → ℕ
number_among [] xs name = 0
number_among (s ∷ ss) [] name = 0
number_among (s ∷ ss) (x ∷ xs) name = if is_name s.name name then x else number_among ss xs name

-- the numbers that the bits from a first one on spell, field by field
abbrev pub decoded : List FieldSpec → ℕ → List Bool → List ℕ
decoded [] first w = []
decoded (s ∷ ss) first w = spelt w first s.bits ∷ decoded ss (first + s.bits) w

-- the bits of a number for each field, and what follows them
abbrev pub pattern : List FieldSpec → List ℕ → List Bool → List Bool
pattern [] xs rest = rest
pattern (s ∷ ss) [] rest = rest
pattern (s ∷ ss) (x ∷ xs) rest = spell s.bits x ++ pattern ss xs rest

-- one number for each field, small enough for its bits
abbrev pub InRange : List FieldSpec → List ℕ → Type 0
InRange [] [] = Unit {0}
InRange [] (x ∷ xs) = ⊥
InRange (s ∷ ss) [] = ⊥
InRange (s ∷ ss) (x ∷ xs) = (x < 2 ^ s.bits) × InRange ss xs
