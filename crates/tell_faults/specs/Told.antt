-- What a source of files tells of a file.
use Rattle.std.specs.Prelude.{ℕ, List, Option}
use Rattle.wb_io.specs.Files.{HasBytes}

-- the file has bytes with a property, as far as the source tells its bytes
abbrev pub HasBytesWith : Option (Option (List ℕ)) → (List ℕ → Type 0) → Type 0
HasBytesWith told P = (bytes : List ℕ) × HasBytes told bytes × P bytes

-- two files have bytes with a property
abbrev pub HasBothWith : Option (Option (List ℕ)) → Option (Option (List ℕ)) → (List ℕ → List ℕ → Type 0) → Type 0
HasBothWith one other P = HasBytesWith one (λ bytes. HasBytesWith other (P bytes))
