-- Places in a text, and its tokens with their places.
use Rattle.std.specs.Prelude.{◌≡◌, ◌<◌, ◌≤◌, ℕ, ◌-◌, List, [], ◌∷◌, length, map, take}
use Rattle.y86_base.specs.Cursor.{line_behind, column_behind}
use Rattle.hcl_read.specs.declared.tokens.Token.{Token}
use Rattle.hcl_read.specs.Tokens.{items, token}
use Rattle.hcl_faults.specs.declared.kinds.TokenKind.{TokenKind}
use Rattle.hcl_faults.specs.declared.places.TextPlace.{TextPlace}
use Rattle.hcl_faults.specs.declared.tokens.TokenAt.{TokenAt}
use Rattle.hcl_faults.specs.Kinds.{kind_of}

-- the place after the first bytes of a text
abbrev pub place_at : List ℕ → ℕ → TextPlace
place_at text at = record { at = at; line = line_behind (take at text); column = column_behind (take at text) }

-- what follows the first token
abbrev pub behind_token : List ℕ → List ℕ
behind_token [] = []
behind_token (byte ∷ bytes) = (token byte bytes).1

-- a token of a text, with the places at which it begins and ends; the bytes beside it begin with the token
abbrev pub token_at : List ℕ → Token × List ℕ → TokenAt
token_at text item =
    record { kind = kind_of item.0; from = length text - length item.1; to = length text - length (behind_token item.1) }

-- the tokens of a text
unfoldable pub token_list : List ℕ → List TokenAt
token_list text = map (token_at text) (items text)

-- the first token of a rest: it begins at `here`, after blanks and comments, and `behind` follows it
pub record IsNext (rest : List ℕ) (kind : TokenKind) (here behind : List ℕ) : Type 0 where
  pub token : Token
  pub kind_is : kind ≡ kind_of token
  pub items_are : items rest ≡ (token, here) ∷ items behind
  pub after : behind_token here ≡ behind
  pub short_here : length here ≤ length rest
  pub shorter : length behind < length here
