-- What the choices of drawn valuations are: after numbers with which some allowed valuation begins there is a choice,
-- and the choices are the numbers with which some allowed valuation continues.
use Rattle.std.specs.Prelude.{ℕ, ◌≡◌, ◌<◌, ◌↔◌, true, List, [], ◌∷◌, ◌++◌, length, take}
use Rattle.std.specs.List.{Contains}
use Rattle.y86_base.specs.declared.parts.Variant.{Variant}
use Rattle.pipe_fields.specs.Layout.{Fields, InRange, numbers}
use Rattle.pipe_fields.specs.Allowed.{allowed}
use Rattle.prog_gen.specs.Choices.{choices}

-- some allowed valuation has these numbers in its first fields
pub record IsAllowedPrefix (v : Variant) (before : List ℕ) : Type 0 where
  pub fields : Fields
  pub range : InRange fields
  pub lawful : allowed v fields ≡ true
  pub begins : take (length before) (numbers fields) ≡ before

pub record PrefixGoesOn (v : Variant) (before : List ℕ) : Type 0 where
  pub some : 0 < length (choices v before)
  pub just : (n : ℕ) → Contains (choices v before) n ↔ IsAllowedPrefix v (before ++ n ∷ [])
