-- The refinement, from facts about the values of each cycle.
use Rattle.std.specs.Prelude.{◌≡◌, ℕ, ◌<◌, Bool, true, false, List}
use Rattle.y86_isa.specs.declared.machine.Rec.{Rec}
use Rattle.y86_isa.specs.Run.{IsImage}
use Rattle.yis_pure_runs.specs.Near.{NearPure}
use Rattle.yis_run_laws.specs.Instructions.{stops_at}
use Rattle.hcl_types.specs.declared.term.Term.{Term}
use Rattle.dp_signals.specs.PipeEquations.{Solves}
use Rattle.dp_signals.specs.declared.pipe_state.PipeState.{PipeState}
use Rattle.pipe_refinement.specs.Kinds.{Good, is_good, Schedule, in_w, in_f}
use Rattle.pipe_refinement.specs.Facts.{AlwaysFacts, CycleFacts}
use Rattle.pipe_refinement.specs.Invariant.{RunContext, CouplingInvariant, run_stage_flow, run_flow}
use Rattle.pipe_refinement.specs.Refines.{Refines}

-- what the obligations say about a cycle: some facts always, the rest if the cycle isn't stopping; its fetch is good
-- or not
pub record HasFacts (x : RunContext) (c : Schedule) (p : PipeState) (f : ℕ → ℕ) : Type 0 where
  pub always : AlwaysFacts x.v p f c
  pub cycle : (is_good c.w ≡ true → stops_at x.v x.image (in_w c) ≡ false) →
      (fetch_good : Bool) × CycleFacts x.v x.s p f c (run_flow x c) fetch_good (run_stage_flow x Good (in_f c))

-- the values of each of the first n cycles of a design have these facts, as long as the invariant holds
abbrev pub MeetsFacts : RunContext → List Term → ℕ → Type 0
MeetsFacts x terms n =
    (t : ℕ) (c : Schedule) (p : PipeState) (rs : List Rec) (f : ℕ → ℕ) →
    t < n → CouplingInvariant x t c p rs → Solves x.v terms p f → HasFacts x c p f

-- a design whose cycles have the facts refines the run of instructions on every image whose instructions fetch nothing that one of the
-- three before them stored
abbrev pub FactsRefine : Type 0
FactsRefine =
    (x : RunContext) (terms : List Term) (n : ℕ) →
    IsImage x.image → NearPure x.v x.image n → MeetsFacts x terms n → Refines x.v terms x.image n
