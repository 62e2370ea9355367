-- The brackets that are open after some tokens: which ones the reader still expects to be closed.
use Rattle.std.specs.Prelude.{Bool, true, false, if◌then◌else◌, List, [], ◌∷◌}
use Rattle.hcl_faults.specs.declared.kinds.TokenKind.{TokenKind}
use Rattle.hcl_faults.specs.declared.kinds.TokenKind.TheVariants as kinds
use Rattle.hcl_faults.specs.declared.tokens.TokenAt.{TokenAt}

abbrev pub opens : TokenKind → Bool
opens kinds.OpenParenthesis = true
opens kinds.OpenBrace = true
opens kinds.OpenBracket = true
opens _ = false

abbrev pub closes : TokenKind → Bool
closes kinds.CloseParenthesis = true
closes kinds.CloseBrace = true
closes kinds.CloseBracket = true
closes _ = false

abbrev pub without_innermost : List TokenAt → List TokenAt
without_innermost [] = []
without_innermost (bracket ∷ outer) = outer

-- the open brackets after another token, the innermost first
unfoldable pub behind_one : List TokenAt → TokenAt → List TokenAt
behind_one open_ones token =
    if opens token.kind then token ∷ open_ones else (if closes token.kind then without_innermost open_ones else open_ones)

unfoldable pub open_behind : List TokenAt → List TokenAt → List TokenAt
open_behind open_ones [] = open_ones
open_behind open_ones (token ∷ tokens) = open_behind (behind_one open_ones token) tokens

-- the brackets that are open after some tokens, the innermost first
abbrev pub open_brackets : List TokenAt → List TokenAt
open_brackets tokens = open_behind [] tokens
