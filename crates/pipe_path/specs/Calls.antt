-- Calls of `cycle`, one after another, and their run.
use Rattle.std.specs.Prelude.{◌≡◌, ℕ, zero, suc, List, [], ◌++◌, length, Option, Some, None}
use Rattle.std.specs.Option.{option_to_list}
use Rattle.y86_base.specs.declared.parts.Variant.{Variant}
use Rattle.y86_isa.specs.declared.machine.Rec.{Rec}
use Rattle.hcl_types.specs.declared.term.Term.{Term}
use Rattle.dp_signals.specs.PipeRun.{PipeRun}
use Rattle.pipe_path.specs.declared.pipe.Cycled.{Cycled}
use Rattle.pipe_path.specs.declared.pipe.Cycled.TheVariants as told
use Rattle.pipe_path.specs.Pipe.{PipeMachine, IsPipeCall, started}

-- the record in the result of a call
abbrev pub record_in : Cycled → Option Rec
record_in told.Bubble = None
record_in (told.Retired r) = Some r
record_in (told.Stopped r) = r
record_in (told.Pip r) = r
record_in told.Ended = None

-- q is the machine after k calls on p, and these are the records that they returned, the first one first
abbrev pub PipeCalls : PipeMachine → ℕ → PipeMachine → List Rec → Type 0
PipeCalls p zero q records = (q ≡ p) × (records ≡ [])
PipeCalls p (suc k) q records =
    (m : PipeMachine) × (before : List Rec) × (r : Cycled) × PipeCalls p k m before × IsPipeCall m r q × (records ≡ before ++ option_to_list (record_in r))

-- k calls on a machine that began on an image are the run of k cycles, with the same state, records and end. `retired`
-- counts the records, and a call after the end does nothing.
pub record IsRun (v : Variant) (terms : List Term) (image : List ℕ) (k : ℕ) (q : PipeMachine) (records : List Rec) : Type 0 where
  pub variant_kept : q.variant ≡ v
  pub design_kept : q.terms ≡ terms
  pub run : PipeRun v terms image k (record { state = q.state; records = records; end = q.end })
  pub retired : q.retired ≡ length records

abbrev pub CallsAreTheRun : Type 0
CallsAreTheRun =
    (v : Variant) (terms : List Term) (order image : List ℕ) (k : ℕ) (q : PipeMachine) (records : List Rec) →
    PipeCalls (started v terms order image) k q records → IsRun v terms image k q records
