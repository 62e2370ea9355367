-- The drawn instructions are valid.
use Rattle.std.proofs.Common.{ℕ, ◌<◌, arith, refl}
use Rattle.y86_isa.specs.Encoding.{IsValid, widest}
use Rattle.y86_isa.specs.Table.{row}

pub irmovq_valid : (r_b val_c : ℕ) → r_b < 14 → IsValid widest (record { icode = 3; ifun = 0; r_a = 15; r_b = r_b; val_c = val_c })
unfolding row
irmovq_valid r_b val_c b = record { known = omega arith; fits = record { ifun = omega arith; field_a = refl; field_b = omega (arith, b); constant = λ h. cc } }

pub opq_valid : (ifun r_a r_b : ℕ) → ifun < 4 → r_a < 14 → r_b < 14 → IsValid widest (record { icode = 6; ifun = ifun; r_a = r_a; r_b = r_b; val_c = 0 })
unfolding row
opq_valid ifun r_a r_b f a b =
    record { known = omega arith; fits = record { ifun = omega (arith, f); field_a = omega (arith, a); field_b = omega (arith, b); constant = λ h. refl } }

pub rrmovq_valid : (ifun r_a r_b : ℕ) → ifun < 7 → r_a < 14 → r_b < 14 → IsValid widest (record { icode = 2; ifun = ifun; r_a = r_a; r_b = r_b; val_c = 0 })
unfolding row
rrmovq_valid ifun r_a r_b f a b =
    record { known = omega arith; fits = record { ifun = omega (arith, f); field_a = omega (arith, a); field_b = omega (arith, b); constant = λ h. refl } }

pub rmmovq_valid : (r_a val_c : ℕ) → r_a < 14 → IsValid widest (record { icode = 4; ifun = 0; r_a = r_a; r_b = 14; val_c = val_c })
unfolding row
rmmovq_valid r_a val_c a = record { known = omega arith; fits = record { ifun = omega arith; field_a = omega (arith, a); field_b = omega arith; constant = λ h. cc } }

pub mrmovq_valid : (r_a val_c : ℕ) → r_a < 14 → IsValid widest (record { icode = 5; ifun = 0; r_a = r_a; r_b = 14; val_c = val_c })
unfolding row
mrmovq_valid r_a val_c a = record { known = omega arith; fits = record { ifun = omega arith; field_a = omega (arith, a); field_b = omega arith; constant = λ h. cc } }

pub jxx_valid : (ifun val_c : ℕ) → ifun < 7 → IsValid widest (record { icode = 7; ifun = ifun; r_a = 15; r_b = 15; val_c = val_c })
unfolding row
jxx_valid ifun val_c f = record { known = omega arith; fits = record { ifun = omega (arith, f); field_a = refl; field_b = refl; constant = λ h. cc } }
