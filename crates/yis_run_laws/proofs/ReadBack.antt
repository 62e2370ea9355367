-- A register after the step of an instruction; which columns name registers.
use Rattle.std.proofs.Common.{◌≡◌, ◌≢◌, ℕ, ◌+◌, ◌<◌, inl, inr, Bool, true, false, ◌==◌, cond, List, refl, ap, ◌∙◌}
use Rattle.std.proofs.lemmas.Bool.{cases_Bool}
use Rattle.y86_base.specs.Registers.{register}
use Rattle.y86_base.specs.declared.parts.Variant.{Variant}
use Rattle.y86_isa.specs.Machine.{start}
use Rattle.y86_isa.specs.RowTests.{is_dash, has_operand_a}
use Rattle.y86_isa.specs.Run.{IsImage, IsMachine}
use Rattle.y86_isa.proofs.Registers.{register-written_back}
use Rattle.y86_isa.proofs.RowsAgree.{operands_agree}
use Rattle.y86_isa.proofs.Words.{IsMachine-run_from, IsMachine-start}
use Rattle.y86_isa.proofs.RowColumns.{dash_is, none_late}
use Rattle.yis_run_laws.specs.Instructions.{state_before, work_at, instruction_row, RunReaches, stops_at}
use Rattle.yis_run_laws.proofs.Walk.{follows, regs_next, source_a, source_b}

pub machine_before : (v : Variant) (image : List ℕ) (i : ℕ) → IsImage image → IsMachine (state_before v image i)
unfolding state_before
machine_before v image i h = IsMachine-run_from v (start image) i (IsMachine-start image h)

-- after both writes of a step
pub read_after_step : (v : Variant) (image : List ℕ) (i s : ℕ) → IsImage image → RunReaches v image i → stops_at v image i ≡ false → s < 15 →
    register (state_before v image (i + 1)).regs s
    ≡ cond (s == (work_at v image i).dst_m) (work_at v image i).val_m (cond (s == (work_at v image i).dst_e) (work_at v image i).val_e (register (state_before v image i).regs s))
read_after_step v image i s h live on lt =
    let w = work_at v image i in
    ap (λ z. register z s) (regs_next v image i live on)
    ∙ register-written_back (state_before v image i).regs w.dst_e w.val_e w.dst_m w.val_m s (machine_before v image i h).registers lt

-- ---- sources and destinations

pub source_a_lt : (v : Variant) (image : List ℕ) (i : ℕ) → IsImage image → (work_at v image i).src_a ≢ 15 → (work_at v image i).src_a < 15
source_a_lt v image i h ne =
    elim (cases_Bool (is_dash (instruction_row v image i).src_a)) [
      | inl d ↦ absurd (ne ((follows v image i).src_a ∙ dash_is _ _ _ d))
      | inr n ↦ source_a v image i h n
    ]

pub source_b_lt : (v : Variant) (image : List ℕ) (i : ℕ) → IsImage image → (work_at v image i).src_b ≢ 15 → (work_at v image i).src_b < 15
source_b_lt v image i h ne =
    elim (cases_Bool (is_dash (instruction_row v image i).src_b)) [
      | inl d ↦ absurd (ne ((follows v image i).src_b ∙ dash_is _ _ _ d))
      | inr n ↦ source_b v image i h n
    ]

-- if the ALU of a row has no operands, valE has no destination
pub dash-from_no_operand : (v : Variant) (image : List ℕ) (i : ℕ) → has_operand_a (instruction_row v image i).alu_a ≡ false → is_dash (instruction_row v image i).dst_e ≡ true
dash-from_no_operand v image i h =
    by (is_dash (instruction_row v image i).dst_e) (has_operand_a (instruction_row v image i).alu_a) (operands_agree v (work_at v image i).icode).destination h
  where
    by : (d a : Bool) → (d ≡ false → a ≡ true) → a ≡ false → d ≡ true
    by true a k e = refl
    by false true k e = cc
    by false false k e = k refl

pub no_operand_dst : (v : Variant) (image : List ℕ) (i : ℕ) → has_operand_a (instruction_row v image i).alu_a ≡ false → (work_at v image i).dst_e ≡ 15
no_operand_dst v image i h =
    (follows v image i).dst_e ∙ none_late _ _ _ ((follows v image i).raw_dst_e ∙ dash_is _ _ _ (dash-from_no_operand v image i h))

pub operand_from_dst : (v : Variant) (image : List ℕ) (i s : ℕ) → s ≢ 15 → s ≡ (work_at v image i).dst_e → has_operand_a (instruction_row v image i).alu_a ≡ true
operand_from_dst v image i s ne e =
    elim (cases_Bool (has_operand_a (instruction_row v image i).alu_a)) [ inl a ↦ a | inr n ↦ absurd (ne (e ∙ no_operand_dst v image i n)) ]
