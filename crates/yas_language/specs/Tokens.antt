-- The tokens of assembly text, and the text of a line as tokens. Blanks may be between any two tokens, each token is as
-- long as possible, and at most one comment follows the last.
use Rattle.std.specs.Prelude.{◌≡◌, ◌⊎◌, ℕ, ◌<◌, true, false, List, [], ◌∷◌, ◌++◌, length, codes}
use Rattle.std.specs.List.{list_all}
use Rattle.std.specs.Str.Parse.{digits_value}
use Rattle.y86_base.specs.declared.number.Number.{Number}
use Rattle.y86_base.specs.Number.{IsDecimal}
use Rattle.y86_base.specs.Registers.{register_names}
use Rattle.y86_base.specs.Text.{IsRun, begins, below_word, is_blank, is_hex, is_name_byte}
use Rattle.yas_asm.specs.Tokens.{is_name_start}
use Rattle.yas_asm.specs.Spacing.{is_sign}
use Rattle.yas_asm.specs.declared.statement.Directive.{Directive}
use Rattle.yas_asm.specs.declared.statement.Directive.TheVariants.{Position, Align, Data}
use Rattle.yas_asm.specs.declared.statement.Width.TheVariants.{One, Two, Four, Eight}

-- a word is a label's name or a mnemonic; a sign is one of `$` `,` `(` `)` `:`
pub data Token : Type 0 where
  word : List ℕ → Token
  number : Number → Token
  register : ℕ → Token
  directive : Directive → Token
  sign : ℕ → Token

abbrev pub dollar : Token
dollar = sign 36

abbrev pub comma : Token
comma = sign 44

abbrev pub left_paren : Token
left_paren = sign 40

abbrev pub right_paren : Token
right_paren = sign 41

abbrev pub colon : Token
colon = sign 58

-- how a directive is written
abbrev pub directive_text : Directive → List ℕ
directive_text Position = codes ".pos"
directive_text Align = codes ".align"
directive_text (Data One) = codes ".byte"
directive_text (Data Two) = codes ".word"
directive_text (Data Four) = codes ".long"
directive_text (Data Eight) = codes ".quad"

-- a table has a row
abbrev pub HasRow : {A : Type 0} → List (List ℕ × A) → List ℕ → A → Type 0
HasRow [] text meaning = ⊥
HasRow (row ∷ rows) text meaning = (row ≡ (text, meaning)) ⊎ HasRow rows text meaning

-- `0x` and the longest run of hex digits of either case, with at least one
pub record IsHex (text : List ℕ) (value : Number) (rest : List ℕ) : Type 0 where
  pub digits : List ℕ
  pub whole : text ≡ 48 ∷ 120 ∷ (digits ++ rest)
  pub each : list_all is_hex digits ≡ true
  pub some : 0 < length digits
  pub longest : begins is_hex rest ≡ false
  pub positive : value.negative ≡ false
  pub magnitude : value.magnitude ≡ below_word (digits_value 16 digits)

-- the text doesn't begin with `0x` and a hex digit
abbrev pub NoHex : List ℕ → Type 0
NoHex text = (behind : List ℕ) → text ≡ 48 ∷ 120 ∷ behind → begins is_hex behind ≡ false

-- a text begins with a token, and the rest follows it
abbrev pub IsToken : List ℕ → Token → List ℕ → Type 0
IsToken text (word name) rest = (begins is_name_start text ≡ true) × IsRun is_name_byte text name rest
IsToken text (number value) rest = IsHex text value rest ⊎ (IsDecimal text value rest × NoHex text)
IsToken text (register r) rest = (name : List ℕ) × HasRow register_names name r × (text ≡ name ++ rest)
IsToken text (directive d) rest = text ≡ directive_text d ++ rest
IsToken text (sign byte) rest = (is_sign byte ≡ true) × (text ≡ byte ∷ rest)

-- the next token after blanks
pub record IsNext (text : List ℕ) (token : Token) (rest : List ℕ) : Type 0 where
  pub blanks : List ℕ
  pub front : List ℕ
  pub whole : text ≡ blanks ++ front
  pub blank : list_all is_blank blanks ≡ true
  pub token_is : IsToken front token rest

-- there is no `*/` in a text
abbrev pub NoClose : List ℕ → Type 0
NoClose text = (before after : List ℕ) → text ≡ before ++ 42 ∷ 47 ∷ after → ⊥

-- a text begins with a comment, and the rest follows it: `#` and `//` begin one to the end of the line, and `/*` one to
-- the first `*/`
pub data IsComment : List ℕ → List ℕ → Type 0 where
  hash : (text : List ℕ) → IsComment (35 ∷ text) []
  slashes : (text : List ℕ) → IsComment (47 ∷ 47 ∷ text) []
  closed : (inside rest : List ℕ) → NoClose (inside ++ 42 ∷ []) → IsComment (47 ∷ 42 ∷ (inside ++ 42 ∷ 47 ∷ rest)) rest

-- the end of a line after its last token: blanks, and at most one comment
pub data IsEnd (text : List ℕ) : Type 0 where
  plain : list_all is_blank text ≡ true → IsEnd text
  commented : (blanks comment rest : List ℕ) → text ≡ blanks ++ comment → list_all is_blank blanks ≡ true → IsComment comment rest → list_all is_blank rest ≡ true → IsEnd text

-- the tokens of a line
abbrev pub HasTokens : List ℕ → List Token → Type 0
HasTokens text [] = IsEnd text
HasTokens text (token ∷ tokens) = (rest : List ℕ) × IsNext text token rest × HasTokens rest tokens
