-- The statements of the theorems: the definition by which the assembler reads a line agrees with the language.
use Rattle.std.specs.Prelude.{◌≡◌, ◌↔◌, ℕ, List, Some, Ok, Err}
use Rattle.y86_base.specs.declared.parts.Variant.{Variant}
use Rattle.yas_asm.specs.declared.fault.AsmWhy.TheVariants.{BadByte, NumberTooWide, Syntax}
use Rattle.yas_asm.specs.declared.statement.Parsed.{Parsed}
use Rattle.yas_asm.specs.Grammar.{line, read_line}
use Rattle.yas_language.specs.BadBytes.{HasBadByte, IsTooWide}
use Rattle.yas_language.specs.Tokens.{Token, HasTokens}
use Rattle.yas_language.specs.Statements.{IsLine}

-- a text is a line of the language with this content
pub record IsLineOfLanguage (variant : Variant) (text : List ℕ) (parsed : Parsed) : Type 0 where
  pub tokens : List Token
  pub has : HasTokens text tokens
  pub line_is : IsLine variant tokens parsed

-- a text is read with a content exactly if it is a line of the language with this content
abbrev pub ReadsTheLanguage : Type 0
ReadsTheLanguage = (variant : Variant) (text : List ℕ) (parsed : Parsed) → (line variant text ≡ Some parsed) ↔ IsLineOfLanguage variant text parsed

-- a line is accepted, and each fault of its own is reported, exactly if the language says so
pub record IsOkWhere (variant : Variant) (text : List ℕ) (parsed : Parsed) : Type 0 where
  pub good : HasBadByte text → ⊥
  pub says : IsLineOfLanguage variant text parsed
  pub narrow : IsTooWide parsed.statement → ⊥

pub record IsSyntaxWhere (variant : Variant) (text : List ℕ) : Type 0 where
  pub good : HasBadByte text → ⊥
  pub no_line : (parsed : Parsed) → IsLineOfLanguage variant text parsed → ⊥

pub record IsTooWideWhere (variant : Variant) (text : List ℕ) : Type 0 where
  pub good : HasBadByte text → ⊥
  pub parsed : Parsed
  pub says : IsLineOfLanguage variant text parsed
  pub wide : IsTooWide parsed.statement

abbrev pub AcceptsTheLanguage : Type 0
AcceptsTheLanguage = (variant : Variant) (text : List ℕ) (parsed : Parsed) → (read_line variant text ≡ Ok parsed) ↔ IsOkWhere variant text parsed

abbrev pub ReportsBadBytes : Type 0
ReportsBadBytes = (variant : Variant) (text : List ℕ) → (read_line variant text ≡ Err BadByte) ↔ HasBadByte text

abbrev pub ReportsSyntax : Type 0
ReportsSyntax = (variant : Variant) (text : List ℕ) → (read_line variant text ≡ Err Syntax) ↔ IsSyntaxWhere variant text

abbrev pub ReportsWideNumbers : Type 0
ReportsWideNumbers = (variant : Variant) (text : List ℕ) → (read_line variant text ≡ Err NumberTooWide) ↔ IsTooWideWhere variant text
