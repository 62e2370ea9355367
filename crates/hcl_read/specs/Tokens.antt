-- The tokens of HCL text (HCL guide). Each is as long as possible; blanks, line feeds and comments may separate them.
use Rattle.std.specs.Prelude.{ℕ, zero, suc, ◌-◌, ◌^◌, Bool, true, false, ◌&&◌, ◌||◌, ◌==◌, nat_le, if◌then◌else◌, not, List, [], ◌∷◌, length, drop, take_while, codes, map, Option, Some, None, unwrap_or}
use Rattle.y86_base.specs.declared.number.Number.{Number as Written}
use Rattle.y86_base.specs.Text.{begins, behind, is_blank, is_letter, is_line_feed, is_name_byte}
use Rattle.y86_base.specs.Keyword.{keyword_at, meaning_of}
use Rattle.y86_base.specs.Number.{decimal_at, word_within}
use Rattle.hcl_tree.specs.declared.tree.Kind.TheVariants.{Word, Bool as Truth}
use Rattle.hcl_tree.specs.declared.tree.CmpOp.TheVariants.{Eq, Ne, Lt, Le, Gt, Ge}
use Rattle.hcl_read.specs.declared.tokens.Token.{Token}
use Rattle.hcl_read.specs.declared.tokens.Token.TheVariants.{KeyQuote, KeySig, KeyDef, KeyIn, Ident, Number, Wide, Quoted, Assign, Semicolon, OrOr, AndAnd, Bang, Compare, OpenParen, CloseParen, OpenBrace, CloseBrace, OpenBracket, CloseBracket, Comma, Colon, Bad, Odd}

-- a byte of a quoted text: any but `'` and a line feed
abbrev pub is_quoted : ℕ → Bool
is_quoted byte = not (byte == 39 || is_line_feed byte)

-- a byte that may occur outside comments and quoted texts, apart from blanks and line feeds
abbrev pub is_visible : ℕ → Bool
is_visible byte = nat_le 33 byte && nat_le byte 126

-- what follows the blanks, line feeds and comments in front; a comment extends from `#` to the end of its line
unfoldable pub skipped : Bool → List ℕ → List ℕ
skipped comment [] = []
skipped true (byte ∷ bytes) = skipped (not (is_line_feed byte)) bytes
skipped false (byte ∷ bytes) =
    if byte == 35 then skipped true bytes
    else (if is_blank byte || is_line_feed byte then skipped false bytes else byte ∷ bytes)

-- the words that are never names
abbrev pub keywords : List (List ℕ × Token)
keywords =
    (codes "quote", KeyQuote) ∷ (codes "wordsig", KeySig Word) ∷ (codes "intsig", KeySig Word) ∷ (codes "boolsig", KeySig Truth)
    ∷ (codes "word", KeyDef Word) ∷ (codes "int", KeyDef Word) ∷ (codes "bool", KeyDef Truth) ∷ (codes "in", KeyIn) ∷ []

-- the symbols of two bytes, and those of one
abbrev pub long_symbols : List (List ℕ × Token)
long_symbols =
    (codes "||", OrOr) ∷ (codes "&&", AndAnd) ∷ (codes "==", Compare Eq) ∷ (codes "!=", Compare Ne) ∷ (codes "<=", Compare Le)
    ∷ (codes ">=", Compare Ge) ∷ []

abbrev pub short_symbols : List (List ℕ × Token)
short_symbols =
    (codes "<", Compare Lt) ∷ (codes ">", Compare Gt) ∷ (codes "!", Bang) ∷ (codes "=", Assign) ∷ (codes ";", Semicolon)
    ∷ (codes ",", Comma) ∷ (codes ":", Colon) ∷ (codes "(", OpenParen) ∷ (codes ")", CloseParen) ∷ (codes "{", OpenBrace)
    ∷ (codes "}", CloseBrace) ∷ (codes "[", OpenBracket) ∷ (codes "]", CloseBracket) ∷ []

-- a word is a keyword or a name
abbrev pub word : List ℕ → Token
word name = unwrap_or (meaning_of keywords name) (Ident name)

-- a byte that begins no token; the bytes after it are not read
abbrev pub stray : ℕ → Token × List ℕ
stray byte = ((if is_visible byte then Odd else Bad), [])

-- a number from -2^63 to 2^63-1 is a word of 64 bits, a negative one in two's complement
abbrev pub in_range : Option ℕ → Token
in_range (Some n) = Number n
in_range None = Wide

abbrev pub number_or : Option (Written × List ℕ) → Token × List ℕ → Token × List ℕ
number_or (Some x) other = (in_range (word_within (2 ^ 63) (2 ^ 63 - 1) x.0), x.1)
number_or None other = other

-- a symbol, or a byte that begins no token
abbrev pub symbol_or_stray : ℕ → List ℕ → Token × List ℕ
symbol_or_stray byte bytes =
    unwrap_or (keyword_at long_symbols (byte ∷ bytes)) (unwrap_or (keyword_at short_symbols (byte ∷ bytes)) (stray byte))

-- a quote closes the quoted text in front
abbrev pub is_closed : List ℕ → Bool
is_closed text = begins (λ byte. byte == 39) (behind is_quoted text)

-- the token that begins with a byte, and what follows it: a word, a quoted text, a number, with an optional `-`
-- directly before its digits, or a symbol
unfoldable pub token : ℕ → List ℕ → Token × List ℕ
token byte bytes =
    if is_letter byte then (word (take_while is_name_byte (byte ∷ bytes)), behind is_name_byte (byte ∷ bytes))
    else (if byte == 39 && is_closed bytes then (Quoted (take_while is_quoted bytes), drop 1 (behind is_quoted bytes))
    else number_or (decimal_at (byte ∷ bytes)) (symbol_or_stray byte bytes))

abbrev pub front : List ℕ → Option (Token × List ℕ)
front [] = None
front (byte ∷ bytes) = Some (token byte bytes)

-- the first tokens, at most `most`, of a text that has no blank, line feed or comment in front, each with the bytes
-- from its first on
unfoldable pub items_in : ℕ → List ℕ → List (Token × List ℕ)
items_in zero text = []
items_in (suc most) [] = []
items_in (suc most) (byte ∷ bytes) =
    ((token byte bytes).0, byte ∷ bytes) ∷ items_in most (skipped false (token byte bytes).1)

-- the tokens of a text, each with the bytes from its first on; none is shorter than a byte (`law_of_tokens`)
unfoldable pub items : List ℕ → List (Token × List ℕ)
items text = items_in (length text) (skipped false text)

abbrev pub tokens : List ℕ → List Token
tokens text = map (λ item. item.0) (items text)
