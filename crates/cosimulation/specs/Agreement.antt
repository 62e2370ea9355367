-- The outcome of the comparison if the runs agree.
use Rattle.std.specs.Prelude.{◌≡◌, ℕ, List, false}
use Rattle.hcl_types.specs.declared.term.Term.{Term}
use Rattle.pipe_path.specs.Pipe.{PipeMachine, end_of, started}
use Rattle.y86_base.specs.declared.parts.Variant.{Variant}
use Rattle.y86_isa.specs.Machine.{is_aok, start}
use Rattle.y86_isa.specs.Run.{run}
use Rattle.cosimulation.specs.Lockstep.{IsAlike}
use Rattle.cosimulation.specs.declared.lockstep.Compared.{Compared}
use Rattle.cosimulation.specs.declared.lockstep.Compared.TheVariants.{Same, Open, Record, State}

-- no record and no final state differs
abbrev pub FindsNone : Compared → Type 0
FindsNone (Same steps cycles) = Unit {0}
FindsNone (Open steps) = Unit {0}
FindsNone (Record d) = ⊥
FindsNone (State steps cycles part) = ⊥

-- the pipeline has ended after these numbers of records and cycles, the records are alike, and its machine is equal to
-- that of the run by instructions
pub record EndsEqual (v : Variant) (terms : List Term) (order image : List ℕ) (steps cycles : ℕ) : Type 0 where
  pub pipe : PipeMachine
  pub alike : IsAlike v (started v terms order image) (start image) cycles steps pipe
  pub ended : is_aok pipe.end ≡ false
  pub equal : end_of pipe ≡ run v image steps
