-- The equations of a cycle of SEQ by the names of its signals.
use Rattle.std.proofs.Common.{◌≡◌, ℕ, List}
use Rattle.y86_base.specs.declared.parts.Variant.{Variant}
use Rattle.y86_isa.specs.declared.machine.Machine.{Machine}
use Rattle.hcl_types.specs.declared.term.Term.{Term}
use Rattle.dp_signals.specs.Equations.{rule_of}
use Rattle.dp_signals.specs.PipeEquations.{constants}
use Rattle.dp_signals.specs.SequentialRows.{seq}
use Rattle.dp_sequential.specs.Cycle.{block_by, fetched_by, worked_by}
use Rattle.dp_sequential.specs.Hardware.{HasHardware}
use Rattle.dp_sequential.specs.Seq.{SeqSolves, seq_given}

pub seq_pc : (v : Variant) (terms : List Term) (s : Machine) (f : ℕ → ℕ) → SeqSolves v terms s f → f seq.pc ≡ s.pc
unfolding rule_of seq_given constants
seq_pc v terms s f h = h seq.pc

pub seq_hardware_rows : (v : Variant) (terms : List Term) (s : Machine) (f : ℕ → ℕ) → SeqSolves v terms s f → HasHardware seq v s f
unfolding rule_of block_by fetched_by worked_by seq_given constants
seq_hardware_rows v terms s f h =
    record {
      imem_icode = h seq.imem_icode;
      imem_ifun = h seq.imem_ifun;
      imem_error = h seq.imem_error;
      rA = h seq.r_a;
      rB = h seq.r_b;
      valC = h seq.val_c;
      valP = h seq.val_p;
      valA = h seq.val_a;
      valB = h seq.val_b;
      valE = h seq.val_e;
      Cnd = h seq.cnd;
      valM = h seq.val_m;
      dmem_error = h seq.dmem_error;
    }
