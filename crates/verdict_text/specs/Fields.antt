-- Numbers after their labels.
use Rattle.std.specs.Prelude.{ℕ, codes, List, [], ◌∷◌, ◌++◌}
use Rattle.y86_base.specs.Numeral.{numeral}

-- a label, and the number after it
pub record Labelled : Type 0 where
  pub label : List ℕ
  pub number : ℕ

abbrev pub field : List ℕ → ℕ → Labelled
field label n = record { label = label; number = n }

-- each label with its number in decimal, as " icode=6"
abbrev pub labelled : List Labelled → List ℕ
labelled [] = []
labelled (x ∷ xs) = (codes " " ++ x.label ++ codes "=" ++ numeral 10 1 x.number) ++ labelled xs

-- a line: its beginning, and its numbers
unfoldable pub labelled_line : List ℕ → List Labelled → List ℕ
labelled_line beginning numbers = beginning ++ labelled numbers ++ codes "\n"
