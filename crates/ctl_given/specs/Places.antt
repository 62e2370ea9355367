-- The variables that are the bits of the Code and Truth names of the state and the hardware.
use Rattle.std.specs.Prelude.{ℕ, ◌+◌, ◌≤◌, ◌≡◌, ◌==◌, ◌&&◌, ◌||◌, not, Bool, true, false, is_some, if◌then◌else◌, IsTrue, List, [], ◌∷◌, Option, Some, None}
use Rattle.std.specs.List.{AllByRecursion}
use Rattle.hcl_types.specs.declared.table.Class.{Class}
use Rattle.hcl_types.specs.declared.table.Class.TheVariants as class
use Rattle.hcl_types.specs.declared.table.Role.{Role}
use Rattle.hcl_types.specs.declared.table.Role.TheVariants as role
use Rattle.hcl_types.specs.declared.table.Row.{Row}
use Rattle.net_fields.specs.Spelling.{spelt}
use Rattle.ctl_given.specs.declared.places.Place.{Place}

-- the first place in the list with this name
abbrev pub place_of : List Place → ℕ → Option Place
place_of [] n = None
place_of (p ∷ ps) n = if p.name == n then Some p else place_of ps n

-- names of this class have bits if they are state or hardware
abbrev pub has_bits : Class → Bool
has_bits class.Number = false
has_bits class.Code = true
has_bits class.Value = false
has_bits class.Truth = true

abbrev pub is_field : Role → Bool
is_field (role.Constant k) = false
is_field role.State = true
is_field (role.Hardware ids) = true
is_field role.Defined = false

-- each row whose name has bits has a place; n is the number of the first row
abbrev pub are_placed : List Place → ℕ → List Row → Bool
are_placed places n [] = true
are_placed places n (row ∷ rows) = (not (is_field row.role && has_bits row.class) || is_some (place_of places n)) && are_placed places (n + 1) rows

-- a place has at most 4 bits, all of them among the first vars variables
abbrev pub IsInside : ℕ → Place → Type 0
IsInside vars p = (p.bits ≤ 4) × (p.first + p.bits ≤ vars)

-- each Code or Truth name of the state or the hardware has a place, and each place has at most 4 of the variables
pub record HavePlaces (rows : List Row) (places : List Place) (vars : ℕ) : Type 0 where
  pub placed : IsTrue (are_placed places 0 rows)
  pub inside : AllByRecursion (IsInside vars) places

-- the bits at each place spell the number of its name's field
abbrev pub Spells : List Place → List Bool → (ℕ → ℕ) → Type 0
Spells places w field = AllByRecursion (λ (p : Place). field p.name ≡ spelt w p.first p.bits) places
