-- A machine of SEQ+ as its callers see it, and its calls of `cycle`, one after another.
use Rattle.std.specs.Prelude.{ℕ, List}
use Rattle.y86_base.specs.declared.parts.Variant.{Variant}
use Rattle.y86_isa.specs.declared.machine.Rec.{Rec}
use Rattle.hcl_types.specs.declared.term.Term.{Term}
use Rattle.dp_sequential.specs.Machine.{CallsOn, MachineView, started_on}
use Rattle.seq_plus.specs.PlusRun.{plus_path}
use Rattle.seq_plus.specs.declared.state.PlusState.{PlusState}

-- the instruction set, the design with its order, and the state
abbrev pub PlusMachine : Type 0
PlusMachine = MachineView PlusState

-- the machine before its first cycle
abbrev pub started : Variant → List Term → List ℕ → List ℕ → PlusMachine
started = started_on plus_path

-- q is the machine after k calls on p, and these are the records that they returned, the first one first
abbrev pub PlusCalls : PlusMachine → ℕ → PlusMachine → List Rec → Type 0
PlusCalls = CallsOn plus_path
