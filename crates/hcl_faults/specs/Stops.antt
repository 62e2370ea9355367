-- Where the reader stops in a text: its tokens, what it expected there, and which brackets are open.
use Rattle.std.specs.Prelude.{◌≡◌, ◌≤◌, ℕ, List, length, nat_lt, reverse, take}
use Rattle.std.specs.List.{prefix_len}
use Rattle.y86_base.specs.Cursor.{column_behind, line_behind}
use Rattle.hcl_read.specs.Read.{IsFault}
use Rattle.hcl_faults.specs.declared.stop.Stopped.{Stopped}
use Rattle.hcl_faults.specs.Places.{token_list}
use Rattle.hcl_faults.specs.Expected.{expected}
use Rattle.hcl_faults.specs.Brackets.{open_brackets}

-- this number of bytes is before a line and a column
pub record IsPlace (text : List ℕ) (line column at : ℕ) : Type 0 where
  pub within : at ≤ length text
  pub line_is : line_behind (take at text) ≡ line
  pub column_is : column_behind (take at text) ≡ column

-- the tokens of a text; the number of those in front of the place; what could be there; and the brackets that are open
pub record Describes (text : List ℕ) (s : Stopped) : Type 0 where
  pub all_tokens : s.tokens ≡ token_list text
  pub in_front : s.index ≡ prefix_len (λ token. nat_lt token.from s.at) (token_list text)
  pub could_be : s.expected ≡ expected text s.index
  pub are_open : reverse s.open ≡ open_brackets (take s.index (token_list text))

pub record IsStopped (text : List ℕ) (s : Stopped) : Type 0 where
  pub is_fault : IsFault text s.fault
  pub place : IsPlace text s.fault.line s.fault.col s.at
  pub there : Describes text s

-- the tokens that begin before the place of a fault are just those in front of it, and files begin with these
abbrev pub IndexIsOfFront : Type 0
IndexIsOfFront = (text : List ℕ) (s : Stopped) (stopped : IsStopped text s) → s.index ≡ length stopped.is_fault.front
