-- Laws of the fields of a table.
use Rattle.std.specs.Prelude.{ℕ, ◌≡◌, ◌≤◌, ◌+◌, Bool, false, List, length, get_or}
use Rattle.net_fields.specs.declared.field_specs.BitRange.{BitRange}
use Rattle.net_fields.specs.declared.field_specs.FieldSpec.{FieldSpec}
use Rattle.net_fields.specs.FieldSpecs.{total, decoded, number_among, pattern}
use Rattle.net_fields.specs.Spelling.{spelt}

-- the pattern of numbers in range spells them, is as long as the fields and the rest together, and has the rest after
-- the fields
pub record IsPatternOf (ss : List FieldSpec) (xs : List ℕ) (rest : List Bool) : Type 0 where
  pub spells : decoded ss 0 (pattern ss xs rest) ≡ xs
  pub size : length (pattern ss xs rest) ≡ total ss + length rest
  pub behind : (k : ℕ) → get_or (pattern ss xs rest) (total ss + k) false ≡ get_or rest k false

-- the place of a signal's field is among the bits of the fields, and these bits spell its number
pub record IsPlaceOf (ss : List FieldSpec) (name : ℕ) (p : BitRange) : Type 0 where
  pub within : p.first + p.bits ≤ total ss
  pub spells : (w : List Bool) → number_among ss (decoded ss 0 w) name ≡ spelt w p.first p.bits
