-- An entry of the label table, as the label's name and its address.
use Rattle.std.specs.Prelude.{ℕ, List, Vec}

abbrev pub named : {A : Type 0} → Vec ℕ A × ℕ → List ℕ × ℕ
named entry = (entry.0.items, entry.1)

-- the elements of a vector
abbrev pub items_of : {A B : Type 0} → Vec A B → List A
items_of vec = vec.items
