-- The fault of a text that is no file: at the first token that no file of the grammar within the limits can have there,
-- or at the end of the text.
use Rattle.std.specs.Prelude.{ℕ, suc, ◌≤◌, ◌≡◌, ◌≢◌, if◌then◌else◌, nat_eq, List, [], ◌∷◌, ◌++◌, length}
use Rattle.std.specs.Cmp.Lexicographic.{pointwise}
use Rattle.std.specs.List.{list_any}
use Rattle.hcl_tree.specs.declared.tree.File.{File}
use Rattle.hcl_read.specs.declared.fault.HclWhy.{HclWhy}
use Rattle.hcl_read.specs.declared.fault.HclWhy.TheVariants as whys
use Rattle.hcl_read.specs.declared.tokens.Token.{Token}
use Rattle.hcl_read.specs.declared.tokens.Token.TheVariants.{Ident, Wide, Bad}
use Rattle.hcl_read.specs.Grammar.{IsFile}

-- the names of a text, each once, in the order of their first uses
unfoldable pub noted : List (List ℕ) → Token → List (List ℕ)
noted names (Ident name) = if list_any (pointwise nat_eq name) names then names else names ++ name ∷ []
noted names _ = names

unfoldable pub noted_all : List (List ℕ) → List Token → List (List ℕ)
noted_all names [] = names
noted_all names (t ∷ ts) = noted_all (noted names t) ts

-- at most 256 different names
abbrev pub NamesFit : List Token → Type 0
NamesFit ts = length (noted_all [] ts) ≤ 256

-- a text is a file: it follows the grammar and keeps every limit
abbrev pub Accepts : List Token → File → Type 0
Accepts ts f = IsFile 0 ts f × NamesFit ts

-- some file of the grammar begins with these tokens, which keep the limits on depth and numbers
abbrev pub Viable : List Token → Type 0
Viable front = (tail : List Token) × (f : File) × IsFile (length tail) (front ++ tail) f

-- these tokens begin a file and keep every limit
abbrev pub IsViableWithin : List Token → Type 0
IsViableWithin front = Viable front × NamesFit front

-- some file of the grammar continues with this token, whether or not the token keeps the limits
abbrev pub GoesOnWith : List Token → Token → Type 0
GoesOnWith front t = (tail : List Token) × (f : File) × IsFile (suc (length tail)) (front ++ t ∷ tail) f

-- why a token that no file can have is refused: the first reason that applies
abbrev pub Reason : List Token → Token → HclWhy → Type 0
Reason front t whys.BadByte = t ≡ Bad
Reason front t whys.Syntax = (t ≢ Bad) × (GoesOnWith front t → ⊥)
Reason front t whys.NumberTooWide = (t ≡ Wide) × GoesOnWith front t
Reason front t whys.DepthOver64 = (t ≢ Wide) × GoesOnWith front t × (Viable (front ++ t ∷ []) → ⊥)
Reason front t whys.NamesOver256 = Viable (front ++ t ∷ []) × (NamesFit (front ++ t ∷ []) → ⊥)
Reason front t whys.Memory = ⊥

-- the tokens in front are correct, and what comes next, a token or the end, is at fault
abbrev pub FaultAt : List Token → List Token → HclWhy → Type 0
FaultAt front [] why = IsViableWithin front × ((f : File) → IsFile 0 front f → ⊥) × (why ≡ whys.Syntax)
FaultAt front (t ∷ rest) why = IsViableWithin front × (IsViableWithin (front ++ t ∷ []) → ⊥) × Reason front t why
