-- SEQ's runs are those of a sequential datapath.
use Rattle.std.proofs.Common.{◌≡◌, ℕ, List}
use Rattle.y86_base.specs.declared.parts.Variant.{Variant}
use Rattle.y86_isa.specs.declared.machine.Machine.{Machine}
use Rattle.y86_isa.specs.declared.machine.Rec.{Rec}
use Rattle.hcl_types.specs.Tables.{IsBound, IsOrderOf}
use Rattle.hcl_types.specs.declared.term.Term.{Term}
use Rattle.dp_signals.specs.SeqTable.{seq_rows}
use Rattle.dp_signals.specs.SequentialRows.{seq}
use Rattle.dp_sequential.specs.Machine.{CallsAreTheRun}
use Rattle.dp_sequential.specs.Seq.{SeqRunFrom, SeqSolves, seq_path}
use Rattle.dp_sequential.specs.SeqLaws.{seq_lawful}
use Rattle.dp_sequential.proofs.Calls as calls
use Rattle.dp_sequential.proofs.OneRun as one
use Rattle.dp_sequential.proofs.Rules as rules

pub calls_are_the_run : CallsAreTheRun seq_path
calls_are_the_run = calls.calls_are_the_run seq_path

pub solution_there : (v : Variant) (s : Machine) (terms : List Term) (ids : List ℕ) → IsBound seq_rows terms → IsOrderOf seq_rows terms ids → (f : ℕ → ℕ) × SeqSolves v terms s f
solution_there = rules.solution_there seq seq_path seq_lawful

pub solution_alone : (v : Variant) (s : Machine) (terms : List Term) (ids : List ℕ) → IsBound seq_rows terms → IsOrderOf seq_rows terms ids →
    (f h : ℕ → ℕ) → SeqSolves v terms s f → SeqSolves v terms s h → (n : ℕ) → f n ≡ h n
solution_alone = rules.solution_alone seq seq_path seq_lawful

module _ (v : Variant) (terms : List Term) (ids : List ℕ) (bound : IsBound seq_rows terms) (o : IsOrderOf seq_rows terms ids) where
  pub run_there : (m : Machine) (k : ℕ) → (t : Machine) × (records : List Rec) × SeqRunFrom v terms m k t records
  run_there = one.run_there seq seq_path seq_lawful v terms ids bound o

  pub run_alone : (m : Machine) (k : ℕ) (t u : Machine) (rs xs : List Rec) → SeqRunFrom v terms m k t rs → SeqRunFrom v terms m k u xs → (t ≡ u) × (rs ≡ xs)
  run_alone = one.run_alone seq seq_path seq_lawful v terms ids bound o
