-- SEQ+'s runs are those of a sequential datapath.
use Rattle.std.proofs.Common.{◌≡◌, ℕ, List, length}
use Rattle.y86_base.specs.declared.parts.Variant.{Variant}
use Rattle.y86_isa.specs.declared.machine.Rec.{Rec}
use Rattle.hcl_types.specs.Tables.{IsBound, IsOrderOf}
use Rattle.hcl_types.specs.declared.term.Term.{Term}
use Rattle.dp_sequential.specs.Machine.{CallsAreTheRun}
use Rattle.dp_sequential.proofs.Calls as calls
use Rattle.dp_sequential.proofs.OneRun as one
use Rattle.dp_sequential.proofs.Rules as rules
use Rattle.dp_sequential.proofs.Sizes.{calls_keep}
use Rattle.seq_plus.specs.Plus.{PlusCalls, PlusMachine, started}
use Rattle.seq_plus.specs.PlusEquations.{PlusSolves}
use Rattle.seq_plus.specs.PlusNames.{plus}
use Rattle.seq_plus.specs.PlusRun.{PlusRunFrom, plus_path}
use Rattle.seq_plus.specs.PlusTable.{plus_rows}
use Rattle.seq_plus.specs.declared.state.PlusState.{PlusState}
use Rattle.seq_plus.specs.PlusLaws.{plus_lawful}

pub calls_are_the_run : CallsAreTheRun plus_path
calls_are_the_run = calls.calls_are_the_run plus_path

-- calls on a new machine keep the size of its memory
pub plus_size : (v : Variant) (terms : List Term) (order image : List ℕ) (k : ℕ) (q : PlusMachine) (records : List Rec) → PlusCalls (started v terms order image) k q records →
    length q.state.mem ≡ length image
plus_size = calls_keep plus plus_path plus_lawful

pub solution_there : (v : Variant) (s : PlusState) (terms : List Term) (ids : List ℕ) → IsBound plus_rows terms → IsOrderOf plus_rows terms ids → (f : ℕ → ℕ) × PlusSolves v terms s f
solution_there = rules.solution_there plus plus_path plus_lawful

pub plus_unique : (v : Variant) (s : PlusState) (terms : List Term) (ids : List ℕ) → IsBound plus_rows terms → IsOrderOf plus_rows terms ids →
    (f h : ℕ → ℕ) → PlusSolves v terms s f → PlusSolves v terms s h → (n : ℕ) → f n ≡ h n
plus_unique = rules.solution_alone plus plus_path plus_lawful

module _ (v : Variant) (terms : List Term) (ids : List ℕ) (bound : IsBound plus_rows terms) (o : IsOrderOf plus_rows terms ids) where
  pub run_there : (m : PlusState) (k : ℕ) → (t : PlusState) × (records : List Rec) × PlusRunFrom v terms m k t records
  run_there = one.run_there plus plus_path plus_lawful v terms ids bound o

  pub run_alone : (m : PlusState) (k : ℕ) (t u : PlusState) (rs xs : List Rec) → PlusRunFrom v terms m k t rs → PlusRunFrom v terms m k u xs → (t ≡ u) × (rs ≡ xs)
  run_alone = one.run_alone plus plus_path plus_lawful v terms ids bound o
