-- A register after one write, and after both writes of a step.
use Rattle.std.proofs.Common.{◌≡◌, ℕ, ◌<◌, inl, inr, ◌==◌, cond, List, length, ap, ◌∙◌}
use Rattle.std.proofs.lemmas.Bool.{eq-eqb, ne_eqb, cases_eq}
use Rattle.y86_base.specs.Registers.{register, with_register}
use Rattle.y86_base.proofs.Memories.{register-with_register, register-with_register_other, length-with_register}
use Rattle.y86_isa.specs.Blocks.{written_back}

pub register-after_write : (registers : List ℕ) (n word s : ℕ) → length registers ≡ 15 → s < 15 →
    register (with_register registers n word) s ≡ cond (s == n) word (register registers s)
register-after_write registers n word s size lt =
    elim (cases_eq s n) [
      | inl e ↦ rw (eq-eqb s n e, ← e) (register-with_register registers s word size lt)
      | inr ne ↦ rw (ne_eqb s n ne) (register-with_register_other registers n s word ne)
    ]

-- the write of valM wins
pub register-written_back : (registers : List ℕ) (dst_e val_e dst_m val_m s : ℕ) → length registers ≡ 15 → s < 15 →
    register (written_back registers dst_e val_e dst_m val_m) s ≡ cond (s == dst_m) val_m (cond (s == dst_e) val_e (register registers s))
register-written_back registers dst_e val_e dst_m val_m s size lt =
    register-after_write (with_register registers dst_e val_e) dst_m val_m s (length-with_register registers dst_e val_e ∙ size) lt
    ∙ ap (cond (s == dst_m) val_m) (register-after_write registers dst_e val_e s size lt)
