-- The correct answers of the reader to a text.
use Rattle.std.specs.Prelude.{◌≡◌, ◌⊎◌, ℕ, List, [], ◌∷◌, ◌++◌, map, Result, Ok, Err}
use Rattle.y86_base.specs.Cursor.{line_behind, column_behind}
use Rattle.hcl_tree.specs.declared.tree.File.{File}
use Rattle.hcl_read.specs.declared.fault.HclFault.{HclFault}
use Rattle.hcl_read.specs.declared.fault.HclWhy.TheVariants as whys
use Rattle.hcl_read.specs.declared.tokens.Token.{Token}
use Rattle.hcl_read.specs.Fault.{Accepts, FaultAt}
use Rattle.hcl_read.specs.Tokens.{items, tokens}

-- a text is read as a file: its tokens are those of the file, within every limit
abbrev pub ReadsAs : List ℕ → File → Type 0
ReadsAs text file = Accepts (tokens text) file

-- the tokens alone, without their bytes
abbrev pub kinds : List (Token × List ℕ) → List Token
kinds some = map (λ item. item.0) some

-- the bytes from the first of some tokens on; none at the end of the text
abbrev pub bytes_from : List (Token × List ℕ) → List ℕ
bytes_from [] = []
bytes_from (item ∷ rest) = item.1

-- A text has a fault at the first token after `front`, or at its end: the tokens in front begin a file, and no file
-- continues there (`FaultAt`). Line and column are those of the token's first byte, or of the end of the text.
pub record IsFault (text : List ℕ) (fault : HclFault) : Type 0 where
  pub front : List (Token × List ℕ)
  pub rest : List (Token × List ℕ)
  pub whole : items text ≡ front ++ rest
  pub reason : FaultAt (kinds front) (kinds rest) fault.why
  pub before : List ℕ
  pub place : text ≡ before ++ bytes_from rest
  pub line : fault.line ≡ line_behind before
  pub column : fault.col ≡ column_behind before

-- the report is a fault of the text, or out of memory
abbrev pub IsReadFault : List ℕ → HclFault → Type 0
IsReadFault text fault = ((fault.why ≡ whys.Memory) × (fault.line ≡ 0) × (fault.col ≡ 0)) ⊎ IsFault text fault

-- an answer is this file, or out of memory
abbrev pub IsReadAnswer : Result File HclFault → File → Type 0
IsReadAnswer (Ok file) wanted = file ≡ wanted
IsReadAnswer (Err fault) wanted = fault.why ≡ whys.Memory
