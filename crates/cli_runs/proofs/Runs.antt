-- A run keeps the size of the memory.
use Rattle.std.proofs.Common.{◌≡◌, ℕ, List, length, refl}
use Rattle.y86_base.specs.declared.parts.Variant.{Variant}
use Rattle.y86_isa.specs.declared.machine.Machine.{Machine}
use Rattle.y86_isa.specs.Run.{run_from}
use Rattle.y86_isa.specs.declared.machine.Rec.{Rec}
use Rattle.y86_isa.proofs.Images.{length-run_from}
use Rattle.hcl_types.specs.declared.term.Term.{Term}
use Rattle.dp_signals.specs.SequentialRows.{seq}
use Rattle.dp_sequential.specs.Seq.{SeqRun, seq_path}
use Rattle.dp_sequential.specs.SeqLaws.{seq_lawful}
use Rattle.dp_sequential.proofs.Sizes.{calls_keep}
use Rattle.seq_path.specs.Seq.{SeqCalls, SeqMachine, started}
use Rattle.seq_path.proofs.Runs.{calls_are_the_run}

pub run_keeps_size : (v : Variant) (m after : Machine) (n : ℕ) → after ≡ run_from v m n → length m.mem ≡ length after.mem
run_keeps_size v m after n e = rw (e, length-run_from) refl

-- calls on a new machine are a run, and keep the size of its memory
pub seq_ran : (v : Variant) (terms : List Term) (order image : List ℕ) (k : ℕ) (q : SeqMachine) (records : List Rec) → SeqCalls (started v terms order image) k q records →
    SeqRun v terms image k q.state records
seq_ran v terms order image k q records h = (calls_are_the_run v terms order image k q records h).run

pub seq_size : (v : Variant) (terms : List Term) (order image : List ℕ) (k : ℕ) (q : SeqMachine) (records : List Rec) → SeqCalls (started v terms order image) k q records →
    length q.state.mem ≡ length image
seq_size = calls_keep seq seq_path seq_lawful
