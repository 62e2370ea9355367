-- Cycles of a machine up to a limit or to its end, and the trace of the records that retire.
use Rattle.std.specs.Prelude.{◌≡◌, ℕ, zero, suc, ◌<◌, ◌≤◌, Bool, true, false, List, [], ◌∷◌, ◌++◌, length, map, take, Option, Some, Result, Ok, Err, if◌then◌else◌}
use Rattle.std.specs.List.{concat}
use Rattle.std.specs.Option.{option_to_list}
use Rattle.wb_io.specs.Sinks.{Appended, AppendedPrefix}
use Rattle.wb_io.specs.declared.sinks.Failed.{Failed}
use Rattle.y86_isa.specs.Machine.{is_aok}
use Rattle.y86_isa.specs.declared.machine.Rec.{Rec}
use Rattle.pipe_path.specs.Calls.{record_in}
use Rattle.pipe_path.specs.Pipe.{PipeMachine, IsPipeCall}
use Rattle.pipe_path.specs.declared.pipe.Cycled.{Cycled}
use Rattle.retire_trace.specs.TraceLine.{trace_line}
use Rattle.retire_trace.specs.declared.driving.Drove.{Drove}

-- q is p after k cycles, before each of which the machine had not ended, and these records retired in them, the first one first
abbrev pub CallsFor : PipeMachine → ℕ → PipeMachine → List Rec → Type 0
CallsFor p zero q records = (q ≡ p) × (records ≡ [])
CallsFor p (suc k) q records =
    (m : PipeMachine) × (before : List Rec) × (r : Cycled) × CallsFor p k m before × (is_aok m.end ≡ true) × IsPipeCall m r q
    × (records ≡ before ++ option_to_list (record_in r))

-- the lines of the records, if a trace is requested
unfoldable pub traced : Bool → List Rec → List ℕ
traced trace records = if trace then concat (map trace_line records) else []

-- one cycle from p to q with its output and the number of records that retired; if a trace is requested, the output is
-- the record's line, and after a failed write a proper prefix of that line
abbrev pub TracedCycle : PipeMachine → PipeMachine → Bool → Option (List ℕ) → Option (List ℕ) → Result ℕ Failed → Type 0
TracedCycle p q trace old new (Ok retired) =
    (r : Cycled) × IsPipeCall p r q × (retired ≡ length (option_to_list (record_in r))) × Appended old new (traced trace (option_to_list (record_in r)))
TracedCycle p q trace old new (Err failed) =
    (r : Cycled) × (last : Rec) × IsPipeCall p r q × (record_in r ≡ Some last) × (trace ≡ true) × AppendedPrefix old new (trace_line last)

-- a drive to the limit, or to the machine's end before it
pub record IsDrive (p : PipeMachine) (limit : ℕ) (q : PipeMachine) (d : Drove) (records : List Rec) : Type 0 where
  pub within : d.cycles ≤ limit
  pub goes : CallsFor p d.cycles q records
  pub whole : d.cycles < limit → is_aok q.end ≡ false
  pub retired : d.retired ≡ length records
  pub end : d.end ≡ q.end

-- a drive with a trace that failed at the line of the last record: the machine is in the state after the cycle that
-- retired it
pub record IsFailedDrive (p : PipeMachine) (limit : ℕ) (trace : Bool) (q : PipeMachine) (old new : Option (List ℕ)) (k : ℕ) (records : List Rec) (last : Rec) (n : ℕ) : Type 0 where
  pub within : k ≤ limit
  pub goes : CallsFor p k q (records ++ last ∷ [])
  pub asked : trace ≡ true
  pub proper : n < length (trace_line last)
  pub taken : Appended old new (traced true records ++ take n (trace_line last))
