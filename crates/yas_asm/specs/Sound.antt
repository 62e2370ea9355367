-- What holds for every statement of the language: its instruction is valid, and the number of an `.align` is at least
-- 1.
use Rattle.std.specs.Prelude.{◌≡◌, ℕ, ◌<◌}
use Rattle.y86_base.specs.declared.parts.Variant.{Variant}
use Rattle.y86_isa.specs.Encoding.{IsValid}
use Rattle.yas_asm.specs.declared.statement.Operand.TheVariants.{Word}
use Rattle.yas_asm.specs.declared.statement.Statement.{Statement}
use Rattle.yas_asm.specs.declared.statement.Statement.TheVariants as statements

-- an instruction is valid whatever value its constant has; if it has no constant, the value is 0
abbrev pub IsSound : Variant → Statement → Type 0
IsSound variant (statements.Instruction icode ifun a b constant) =
    (value : ℕ) → (constant ≡ Word 0 → value ≡ 0)
    → IsValid variant (record { icode = icode; ifun = ifun; r_a = a; r_b = b; val_c = value })
IsSound variant (statements.Align n) = 0 < n
IsSound variant _ = Unit {0}
