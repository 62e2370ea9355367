-- What a cycle of SEQ may change.
use Rattle.std.proofs.Common.{ℕ, List, Option, IfSome}
use Rattle.y86_base.specs.declared.parts.Variant.{Variant}
use Rattle.y86_isa.specs.Laws.{IsRecordOfStep}
use Rattle.y86_isa.specs.declared.machine.Machine.{Machine}
use Rattle.y86_isa.specs.declared.machine.Rec.{Rec}
use Rattle.hcl_types.specs.declared.term.Term.{Term}
use Rattle.dp_signals.specs.SeqNames as signal
use Rattle.dp_signals.specs.SequentialRows.{seq}
use Rattle.dp_sequential.specs.Seq.{IsSeqCycle, seq_next, seq_path, seq_record}
use Rattle.dp_sequential.proofs.Tells.{cycle_says, tells}

seq_tells : (s : Machine) (f : ℕ → ℕ) → IsRecordOfStep s (seq_next s f) (seq_record s f)
unfolding seq_next seq_record
seq_tells s f = tells seq s f (f signal.new_pc)

-- the record of a cycle reports the whole step
pub seq_cycle_tells : (v : Variant) (terms : List Term) (s : Machine) (r : Option Rec) (t : Machine) → IsSeqCycle v terms s r t → IfSome r (λ x. IsRecordOfStep s t x)
seq_cycle_tells v terms = cycle_says seq_path v terms IsRecordOfStep (λ s f h. seq_tells s f)
