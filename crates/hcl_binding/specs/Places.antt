-- The bytes of a key in the index of names.
use Rattle.std.specs.Prelude.{ℕ, List, Vec}

abbrev pub bytes_of : {A : Type 0} → Vec ℕ A → List ℕ
bytes_of key = key.items
