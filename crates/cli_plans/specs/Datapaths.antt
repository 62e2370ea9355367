-- The runs of the machines of the two sequential datapaths.
use Rattle.std.specs.Prelude.{ℕ, List}
use Rattle.dp_sequential.specs.Seq.{SeqRun}
use Rattle.hcl_types.specs.declared.term.Term.{Term}
use Rattle.seq_plus.specs.PlusRun.{PlusEndIs, PlusRun}
use Rattle.seq_plus.specs.declared.state.PlusState.{PlusState}
use Rattle.y86_base.specs.declared.parts.Variant.{Variant}
use Rattle.y86_isa.specs.declared.machine.Machine.{Machine}
use Rattle.y86_isa.specs.declared.machine.Rec.{Rec}
use Rattle.hcl_types.specs.declared.table.SequentialDatapath.{SequentialDatapath}
use Rattle.hcl_types.specs.declared.table.SequentialDatapath.TheVariants.{Seq, SeqPlus}

-- after k cycles on an image the machine of the design is at this end, with these records of the cycles; SEQ+ computes
-- the PC of its end
abbrev pub IsMachineRun : SequentialDatapath → Variant → List Term → List ℕ → ℕ → Machine → List Rec → Type 0
IsMachineRun Seq v terms image k end records = SeqRun v terms image k end records
IsMachineRun SeqPlus v terms image k end records = (t : PlusState) × PlusRun v terms image k t records × PlusEndIs v terms t end
