-- Properties of each statement of the language.
use Rattle.std.proofs.Common.{◌≡◌, ◌+◌, ◌<◌, ◌≤◌, subst, ◌∙◌, ℕ, Bool, true, false, cond, List, length, None, Some, refl, arith}
use Rattle.std.specs.Prelude.{is_some, nat_le}
use Rattle.std.proofs.lemmas.Bool.{false≢true}
use Rattle.std.proofs.lemmas.Bool.Decides.{nat_tests}
use Rattle.y86_base.specs.declared.parts.Variant.{Variant}
use Rattle.y86_base.specs.declared.parts.Variant.TheVariants.{Base, Full}
use Rattle.y86_isa.specs.declared.encoding.Instr.{Instr}
use Rattle.y86_isa.specs.Encoding.{FitsRow, IsValid, widest}
use Rattle.y86_isa.specs.Table.{rows}
use Rattle.y86_isa.proofs.Rows.{row-widest}
use Rattle.yas_asm.specs.declared.statement.Operand.{Operand}
use Rattle.yas_asm.specs.declared.statement.Operand.TheVariants.{Word}
use Rattle.yas_asm.specs.declared.statement.Statement.{Statement}
use Rattle.yas_asm.specs.declared.statement.Statement.TheVariants as statements
use Rattle.yas_asm.specs.Assembly.{value_of, place, width_of, destination}
use Rattle.yas_asm.specs.Sound.{IsSound}

value_of-word : (table : List (List ℕ × ℕ)) (constant : Operand) → constant ≡ Word 0 → value_of table constant ≡ 0
unfolding value_of
value_of-word table constant e = rw e refl

-- an instruction of a variant is also one of the widest variant
valid_widest : (variant : Variant) (i : Instr) → IsValid variant i → IsValid widest i
valid_widest Base i valid = record { known = omega (arith, valid.known); fits = subst (λ r. FitsRow r i) (row-widest Base i.icode valid.known) valid.fits }
valid_widest Full i valid = valid

-- the icode of a sound instruction has a row
pub sound_known : (variant : Variant) (table : List (List ℕ × ℕ)) (icode ifun a b : ℕ) (constant : Operand) → IsSound variant (statements.Instruction icode ifun a b constant)
    → icode < length (rows variant)
sound_known variant table icode ifun a b constant sound = (sound (value_of table constant) (value_of-word table constant)).known

-- the instruction of a sound statement is valid with the value of its constant
pub sound_instruction : (variant : Variant) (table : List (List ℕ × ℕ)) (statement : Statement) (icode ifun a b : ℕ) (constant : Operand) (value : ℕ)
    → statement ≡ statements.Instruction icode ifun a b constant → value ≡ value_of table constant → IsSound variant statement
    → IsValid widest (record { icode = icode; ifun = ifun; r_a = a; r_b = b; val_c = value })
sound_instruction variant table statement icode ifun a b constant value e v sound =
    let here = subst (IsSound variant) e sound in
    valid_widest variant _ (here value (λ w. v ∙ value_of-word table constant w))

pub within : (size n : ℕ) → is_some (cond (nat_le n size) (Some n) None) ≡ true → n ≤ size
within size n e = below (nat_le n size) refl e
  where
    below : (b : Bool) → nat_le n size ≡ b → is_some (cond b (Some n) None) ≡ true → n ≤ size
    below true t e = grind (arith, nat_tests)
    below false t e = absurd (false≢true e)

-- if a statement stays within the size, so do its bytes
pub place_fits : (variant : Variant) (size address top : ℕ) (statement : Statement) → size ≤ top → address ≤ top → is_some (place variant size address statement) ≡ true
    → address + width_of variant statement ≤ top
unfolding place width_of destination
place_fits variant size address top statements.Nothing s h e = omega arith
place_fits variant size address top (statements.Instruction icode ifun a b constant) s h e = omega (arith, within size _ e)
place_fits variant size address top (statements.Data width value) s h e = omega (arith, within size _ e)
place_fits variant size address top (statements.Position n) s h e = omega arith
place_fits variant size address top (statements.Align n) s h e = omega arith
place_fits variant size address top statements.Wide s h e = omega arith
