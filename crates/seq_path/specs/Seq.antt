-- A machine of SEQ as its callers see it, and its calls of `cycle`, one after another.
use Rattle.std.specs.Prelude.{ℕ, List}
use Rattle.y86_base.specs.declared.parts.Variant.{Variant}
use Rattle.y86_isa.specs.declared.machine.Machine.{Machine}
use Rattle.y86_isa.specs.declared.machine.Rec.{Rec}
use Rattle.hcl_types.specs.declared.term.Term.{Term}
use Rattle.dp_sequential.specs.Machine.{CallsOn, MachineView, started_on}
use Rattle.dp_sequential.specs.Seq.{seq_path}

-- the instruction set, the design with its order, and the state
abbrev pub SeqMachine : Type 0
SeqMachine = MachineView Machine

-- the machine before its first cycle
abbrev pub started : Variant → List Term → List ℕ → List ℕ → SeqMachine
started = started_on seq_path

-- q is the machine after k calls on p, and these are the records that they returned, the first one first
abbrev pub SeqCalls : SeqMachine → ℕ → SeqMachine → List Rec → Type 0
SeqCalls = CallsOn seq_path
