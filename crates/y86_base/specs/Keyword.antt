-- Tables of fixed texts with their meanings, such as mnemonics and register names.
use Rattle.std.specs.Prelude.{ℕ, nat_eq, if◌then◌else◌, List, [], ◌∷◌, length, drop, Option, Some, None}
use Rattle.std.specs.List.{starts_with}
use Rattle.std.specs.Str.{bytes_eq}
use Rattle.y86_base.specs.declared.keyword.Keyword.{Keyword}

-- a row of a table, as its text and its meaning
abbrev pub entry : {A : Type 0} → Keyword A → List ℕ × A
entry row = (row.text.now, row.meaning)

-- the first row whose text is at the front, by its meaning, and what follows the text
unfoldable pub keyword_at : {A : Type 0} → List (List ℕ × A) → List ℕ → Option (A × List ℕ)
keyword_at [] text = None
keyword_at (row ∷ rows) text = if starts_with nat_eq text row.0 then Some (row.1, drop (length row.0) text) else keyword_at rows text

-- the meaning of a whole text, from the first row that has it
unfoldable pub meaning_of : {A : Type 0} → List (List ℕ × A) → List ℕ → Option A
meaning_of [] text = None
meaning_of (row ∷ rows) text = if bytes_eq text row.0 then Some row.1 else meaning_of rows text
