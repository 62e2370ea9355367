-- A position in a text, and its line and column, which follow from the text before it.
use Rattle.std.specs.Prelude.{ℕ, ◌+◌, ◌≡◌, ◌≤◌, List, length, take, count_by, reverse}
use Rattle.std.specs.List.{position_or_len}
use Rattle.y86_base.specs.Text.{is_line_feed}

-- a text in two parts: what was read, and what is left to read
pub record CursorState : Type 0 where
  pub done : List ℕ
  pub left : List ℕ

-- the line of the position after a text: one more than the line feeds in it
abbrev pub line_behind : List ℕ → ℕ
line_behind done = count_by is_line_feed done + 1

-- its column in bytes: one more than the bytes since the last line feed
abbrev pub column_behind : List ℕ → ℕ
column_behind done = position_or_len is_line_feed (reverse done) + 1

-- the counts that go with a position in a text
pub record IsAtPlace (bytes : List ℕ) (at line_feeds since : ℕ) : Type 0 where
  pub within : at ≤ length bytes
  pub lines : line_feeds ≡ count_by is_line_feed (take at bytes)
  pub column : since ≡ position_or_len is_line_feed (reverse (take at bytes))
  pub few_lines : line_feeds ≤ at
  pub few_bytes : since ≤ at
