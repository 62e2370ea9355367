-- What is known of the bytes under one name.
use Rattle.std.specs.Prelude.{ℕ, List, Option}

-- nothing, that the name has none, or all of them
abbrev pub Known : Type 0
Known = Option (Option (List ℕ))
