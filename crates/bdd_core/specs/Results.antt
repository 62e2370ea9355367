-- The table of results: each entry holds the result of an operation, and a new entry overwrites an old one.
use Rattle.std.specs.Prelude.{ℕ, List, ◌≡◌, slice_get, Some}
use Rattle.bdd_core.specs.declared.results.Op.TheVariants.{And}
use Rattle.bdd_core.specs.declared.results.OpKey.{OpKey}
use Rattle.bdd_core.specs.declared.results.CachedResult.{CachedResult}

-- an entry holds the result
abbrev pub IsCached : List CachedResult → OpKey → ℕ → Type 0
IsCached entries key answer = (i : ℕ) × (slice_get entries i ≡ Some record { key = key; answer = answer })

-- each entry holds that falsehood and falsehood is falsehood
abbrev pub AreBlank : List CachedResult → Type 0
AreBlank entries = (i : ℕ) (e : CachedResult) → slice_get entries i ≡ Some e → e ≡ record { key = record { op = And; left = 0; right = 0 }; answer = 0 }
