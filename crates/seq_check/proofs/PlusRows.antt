-- The equations of the hardware in a cycle of SEQ+, on the machine at the PC that the file computes.
use Rattle.std.proofs.Common.{ℕ, List}
use Rattle.y86_base.specs.declared.parts.Variant.{Variant}
use Rattle.hcl_types.specs.declared.term.Term.{Term}
use Rattle.dp_signals.specs.Equations.{rule_of}
use Rattle.dp_signals.specs.PipeEquations.{constants}
use Rattle.dp_sequential.specs.Cycle.{block_by, fetched_by, worked_by}
use Rattle.dp_sequential.specs.Hardware.{HasHardware}
use Rattle.seq_plus.specs.PlusEquations.{PlusSolves, at_pc, plus_block, plus_given}
use Rattle.seq_plus.specs.PlusNames as row
use Rattle.seq_plus.specs.declared.state.PlusState.{PlusState}

pub hardware_rows : (v : Variant) (terms : List Term) (t : PlusState) (f : ℕ → ℕ) → PlusSolves v terms t f → HasHardware row.plus v (at_pc t (f row.pc)) f
unfolding rule_of plus_block block_by fetched_by worked_by plus_given constants
hardware_rows v terms t f h =
    record {
      imem_icode = h row.imem_icode;
      imem_ifun = h row.imem_ifun;
      imem_error = h row.imem_error;
      rA = h row.rA;
      rB = h row.rB;
      valC = h row.valC;
      valP = h row.valP;
      valA = h row.valA;
      valB = h row.valB;
      valE = h row.valE;
      Cnd = h row.Cnd;
      valM = h row.valM;
      dmem_error = h row.dmem_error;
    }
