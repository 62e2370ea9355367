-- What one instruction of a run does, in the book's terms.
use Rattle.std.specs.Prelude.{◌≡◌, ◌≢◌, ℕ, ◌+◌, ◌<◌, true, false, ◌==◌, List, if◌then◌else◌}
use Rattle.y86_base.specs.Registers.{register}
use Rattle.y86_base.specs.declared.parts.Stat.{Stat}
use Rattle.y86_base.specs.declared.parts.Stat.TheVariants.{Aok, Hlt, Adr, Ins}
use Rattle.y86_base.specs.declared.parts.Variant.{Variant}
use Rattle.y86_isa.specs.Blocks.{fetched, stored, written_back}
use Rattle.y86_isa.specs.Laws.{FollowsFetch, FollowsRow}
use Rattle.y86_isa.specs.Run.{IsMachine}
use Rattle.yis_run_laws.specs.Instructions.{state_before, work_at, instruction_row, stops_at}

-- an instruction ends with AOK, HLT, ADR or INS
pub data IsStepStatus : Stat → Type 0 where
  aok : IsStepStatus Aok
  hlt : IsStepStatus Hlt
  adr : IsStepStatus Adr
  ins : IsStepStatus Ins

-- instruction i, if the run reaches it: what it reads and computes, and how the machine after it follows
pub record StepEquations (v : Variant) (image : List ℕ) (i : ℕ) : Type 0 where
  pub machine : IsMachine (state_before v image i)
  pub fetch : FollowsFetch (fetched v (state_before v image i).mem (state_before v image i).pc) (work_at v image i)
  pub row : FollowsRow (instruction_row v image i) (state_before v image i) (work_at v image i)
  pub memory : (state_before v image (i + 1)).mem ≡ stored (state_before v image i).mem (work_at v image i).store
  pub flags : (state_before v image (i + 1)).flags ≡ (work_at v image i).flags
  pub registers : stops_at v image i ≡ false →
      (state_before v image (i + 1)).regs
      ≡ written_back (state_before v image i).regs (work_at v image i).dst_e (work_at v image i).val_e (work_at v image i).dst_m (work_at v image i).val_m
  pub register : (number : ℕ) → stops_at v image i ≡ false → number < 15 →
      register (state_before v image (i + 1)).regs number
      ≡ (if number == (work_at v image i).dst_m then (work_at v image i).val_m
      else (if number == (work_at v image i).dst_e then (work_at v image i).val_e
      else register (state_before v image i).regs number))
  pub pc : stops_at v image i ≡ false → (state_before v image (i + 1)).pc ≡ (work_at v image i).next_pc
  pub stop : stops_at v image i ≡ true → state_before v image (i + 1) ≡ record (state_before v image i) { stat = (work_at v image i).stat }
  pub source_a : (work_at v image i).src_a ≢ 15 → (work_at v image i).src_a < 15
  pub source_b : (work_at v image i).src_b ≢ 15 → (work_at v image i).src_b < 15
  pub end : IsStepStatus (work_at v image i).stat
