-- The code's fields as those of the definitions, with the numbers that bits spell at their places.
use Rattle.std.specs.Prelude.{ℕ, nat_le, Bool, List, map}
use Rattle.std.specs.List.{list_all}
use Rattle.net_fields.specs.Spelling.{spelt}
use Rattle.verdict_text.specs.Fields.{Labelled, field}
use Rattle.verdict_text.specs.declared.numbers.ShownField.{ShownField}

abbrev pub shown : List Bool → List ShownField → List Labelled
shown w fields = map (λ (x : ShownField). field x.label.now (spelt w x.place.first x.place.bits)) fields

-- each field has at most 4 bits, so that its number fits a word
abbrev pub are_few : List ShownField → Bool
are_few fields = list_all (λ (x : ShownField). nat_le x.place.bits 4) fields
