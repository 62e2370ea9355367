-- Which kinds of token may follow some tokens, to say what was expected where the reader stops.
use Rattle.std.specs.Prelude.{ℕ, Bool, true, false, List, [], ◌∷◌, ◌++◌, filter, is_ok, ◌≡◌, ◌↔◌, take}
use Rattle.hcl_read.specs.declared.tokens.Token.{Token}
use Rattle.hcl_read.specs.Machine.{run, start}
use Rattle.hcl_read.specs.Fault.{Viable}
use Rattle.hcl_read.specs.Tokens.{tokens}
use Rattle.hcl_faults.specs.declared.kinds.TokenKind.{TokenKind}
use Rattle.hcl_faults.specs.declared.kinds.TokenKind.TheVariants as kinds
use Rattle.hcl_faults.specs.Kinds.{sample}

-- the reader takes some tokens and then one of this kind
unfoldable pub follows : List Token → TokenKind → Bool
follows front kind = is_ok (run 0 start (front ++ sample kind ∷ []))

-- the kinds that occur in files
unfoldable pub file_kinds : List TokenKind
file_kinds =
    kinds.Quote ∷ kinds.Declaration ∷ kinds.Definition ∷ kinds.In ∷ kinds.Name ∷ kinds.Number ∷ kinds.QuotedText ∷ kinds.Assign ∷ kinds.Semicolon
    ∷ kinds.Or ∷ kinds.And ∷ kinds.Not ∷ kinds.Comparison ∷ kinds.OpenParenthesis ∷ kinds.CloseParenthesis ∷ kinds.OpenBrace ∷ kinds.CloseBrace
    ∷ kinds.OpenBracket ∷ kinds.CloseBracket ∷ kinds.Comma ∷ kinds.Colon ∷ []

-- those that may follow the first tokens of a text
abbrev pub expected : List ℕ → ℕ → List TokenKind
expected text count = filter (follows (take count (tokens text))) file_kinds

-- the reader accepts a kind exactly if some file of the grammar begins with these tokens and one of that kind, and
-- keeps the limits on depth and numbers
abbrev pub FollowsInFiles : Type 0
FollowsInFiles = (front : List Token) (kind : TokenKind) → (follows front kind ≡ true) ↔ Viable (front ++ sample kind ∷ [])
