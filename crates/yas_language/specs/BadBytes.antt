-- Bytes that are not allowed outside comments, and numbers that are too wide: the faults of a line that need no other
-- lines.
use Rattle.std.specs.Prelude.{◌≡◌, ◌⊎◌, ℕ, ◌≤◌, List, ◌∷◌}
use Rattle.yas_asm.specs.declared.statement.Operand.TheVariants.{Wide}
use Rattle.yas_asm.specs.declared.statement.Statement.{Statement}
use Rattle.yas_asm.specs.declared.statement.Statement.TheVariants as statements
use Rattle.yas_language.specs.Tokens.{IsComment}

-- a tab, a carriage return, or a byte from the space to `~`
abbrev pub IsGoodByte : ℕ → Type 0
IsGoodByte byte = (byte ≡ 9) ⊎ ((byte ≡ 13) ⊎ ((32 ≤ byte) × (byte ≤ 126)))

-- from the left, passing a comment as a whole and any other byte by itself, there is a byte that is not allowed
pub data HasBadByte : List ℕ → Type 0 where
  here : (byte : ℕ) (bytes : List ℕ) → (IsGoodByte byte → ⊥) → HasBadByte (byte ∷ bytes)
  behind_byte : (byte : ℕ) (bytes : List ℕ) → ((rest : List ℕ) → IsComment (byte ∷ bytes) rest → ⊥) → HasBadByte bytes → HasBadByte (byte ∷ bytes)
  behind_comment : (text rest : List ℕ) → IsComment text rest → HasBadByte rest → HasBadByte text

-- a number of a statement is outside its bounds
abbrev pub IsTooWide : Statement → Type 0
IsTooWide (statements.Instruction icode ifun a b constant) = constant ≡ Wide
IsTooWide (statements.Data width value) = value ≡ Wide
IsTooWide statements.Wide = Unit {0}
IsTooWide (statements.Position n) = ⊥
IsTooWide (statements.Align n) = ⊥
IsTooWide statements.Nothing = ⊥
