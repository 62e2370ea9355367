-- The kinds of tokens that the grammar distinguishes.
use Rattle.std.specs.Prelude.{ℕ, List, []}
use Rattle.hcl_read.specs.declared.tokens.Token.{Token}
use Rattle.hcl_read.specs.declared.tokens.Token.TheVariants as tokens
use Rattle.hcl_tree.specs.declared.tree.Kind.TheVariants.{Word}
use Rattle.hcl_tree.specs.declared.tree.CmpOp.TheVariants.{Eq}
use Rattle.hcl_faults.specs.declared.kinds.TokenKind.{TokenKind}
use Rattle.hcl_faults.specs.declared.kinds.TokenKind.TheVariants as kinds

abbrev pub kind_of : Token → TokenKind
kind_of tokens.KeyQuote = kinds.Quote
kind_of (tokens.KeySig kind) = kinds.Declaration
kind_of (tokens.KeyDef kind) = kinds.Definition
kind_of tokens.KeyIn = kinds.In
kind_of (tokens.Ident text) = kinds.Name
kind_of (tokens.Number n) = kinds.Number
kind_of tokens.Wide = kinds.WideNumber
kind_of (tokens.Quoted text) = kinds.QuotedText
kind_of tokens.Assign = kinds.Assign
kind_of tokens.Semicolon = kinds.Semicolon
kind_of tokens.OrOr = kinds.Or
kind_of tokens.AndAnd = kinds.And
kind_of tokens.Bang = kinds.Not
kind_of (tokens.Compare op) = kinds.Comparison
kind_of tokens.OpenParen = kinds.OpenParenthesis
kind_of tokens.CloseParen = kinds.CloseParenthesis
kind_of tokens.OpenBrace = kinds.OpenBrace
kind_of tokens.CloseBrace = kinds.CloseBrace
kind_of tokens.OpenBracket = kinds.OpenBracket
kind_of tokens.CloseBracket = kinds.CloseBracket
kind_of tokens.Comma = kinds.Comma
kind_of tokens.Colon = kinds.Colon
kind_of tokens.Bad = kinds.BadByte
kind_of tokens.Odd = kinds.Stray

-- a token of a kind
abbrev pub sample : TokenKind → Token
sample kinds.Quote = tokens.KeyQuote
sample kinds.Declaration = tokens.KeySig Word
sample kinds.Definition = tokens.KeyDef Word
sample kinds.In = tokens.KeyIn
sample kinds.Name = tokens.Ident []
sample kinds.Number = tokens.Number 0
sample kinds.WideNumber = tokens.Wide
sample kinds.QuotedText = tokens.Quoted []
sample kinds.Assign = tokens.Assign
sample kinds.Semicolon = tokens.Semicolon
sample kinds.Or = tokens.OrOr
sample kinds.And = tokens.AndAnd
sample kinds.Not = tokens.Bang
sample kinds.Comparison = tokens.Compare Eq
sample kinds.OpenParenthesis = tokens.OpenParen
sample kinds.CloseParenthesis = tokens.CloseParen
sample kinds.OpenBrace = tokens.OpenBrace
sample kinds.CloseBrace = tokens.CloseBrace
sample kinds.OpenBracket = tokens.OpenBracket
sample kinds.CloseBracket = tokens.CloseBracket
sample kinds.Comma = tokens.Comma
sample kinds.Colon = tokens.Colon
sample kinds.BadByte = tokens.Bad
sample kinds.Stray = tokens.Odd
