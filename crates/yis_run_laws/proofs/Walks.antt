-- One instruction of a run, with all that determines the machine after it.
use Rattle.std.proofs.Common.{ℕ, List}
use Rattle.y86_base.specs.declared.parts.Variant.{Variant}
use Rattle.y86_isa.specs.Run.{IsImage}
use Rattle.yis_run_laws.specs.Instructions.{RunReaches}
use Rattle.yis_run_laws.specs.Laws.{StepEquations}
use Rattle.yis_run_laws.proofs.Walk.{follows, fetches, mem_next, flags_next, regs_next, pc_next, stopped_is}
use Rattle.yis_run_laws.proofs.ReadBack.{machine_before, read_after_step, source_a_lt, source_b_lt}
use Rattle.yis_run_laws.proofs.Statuses.{ends}

pub walks : (v : Variant) (image : List ℕ) (i : ℕ) → IsImage image → RunReaches v image i → StepEquations v image i
walks v image i h live =
    record {
      machine = machine_before v image i h;
      fetch = fetches v image i;
      row = follows v image i;
      memory = mem_next v image i live;
      flags = flags_next v image i live;
      registers = regs_next v image i live;
      register = λ s on lt. read_after_step v image i s h live on lt;
      pc = pc_next v image i live;
      stop = stopped_is v image i live;
      source_a = source_a_lt v image i h;
      source_b = source_b_lt v image i h;
      end = ends v image i;
    }
