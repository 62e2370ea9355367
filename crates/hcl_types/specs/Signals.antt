-- What an evaluator may be asked, and which values it may have used in advance.
use Rattle.std.specs.Prelude.{◌≡◌, ◌<◌, ◌++◌, ℕ, List, slice_get, Some}
use Rattle.std.specs.List.{AllByRecursion}
use Rattle.hcl_types.specs.declared.term.Term.{Term}
use Rattle.hcl_types.specs.Terms.{names}

-- def is a position among the design's terms, and each name in that term is below the number of entries
abbrev pub HasEntries : List Term → ℕ → ℕ → Type 0
HasEntries terms def entries = (t : Term) × (slice_get terms def ≡ Some t) × AllByRecursion (λ id. id < entries) (names t)

-- values begins with these words: entry 0 is the first of them, and so on
abbrev pub Starts : List ℕ → List ℕ → Type 0
Starts words values = (rest : List ℕ) × (values ≡ words ++ rest)
