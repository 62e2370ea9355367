-- The run of PIPE beside the run by instructions: the first record that differs, or the final states.
use Rattle.std.specs.Prelude.{◌≡◌, ◌≢◌, ℕ, ◌-◌, ◌≤◌, true, false, [], ◌∷◌, ◌++◌, length, Option, Some}
use Rattle.std.specs.Option.{option_to_list}
use Rattle.pipe_path.specs.Calls.{record_in}
use Rattle.pipe_path.specs.Pipe.{IsPipeCall, PipeMachine, end_of}
use Rattle.pipe_path.specs.declared.pipe.Cycled.{Cycled}
use Rattle.retire_trace.specs.Drive.{CallsFor}
use Rattle.y86_base.specs.declared.parts.Variant.{Variant}
use Rattle.y86_isa.specs.Machine.{is_aok}
use Rattle.y86_isa.specs.Run.{records_from, run_from}
use Rattle.y86_isa.specs.Step.{retired}
use Rattle.y86_isa.specs.declared.machine.Machine.{Machine}
use Rattle.y86_isa.specs.declared.machine.Rec.{Rec}
use Rattle.cosimulation.specs.States.{FirstDiffersIn, SameState}
use Rattle.cosimulation.specs.declared.lockstep.Compared.{Compared}
use Rattle.cosimulation.specs.declared.lockstep.Compared.TheVariants.{Same, Open, Record, State}
use Rattle.cosimulation.specs.declared.lockstep.RecordDiffers.{RecordDiffers}

-- q is p after `cycles` cycles; it hadn't ended before any of them. Exactly the first `steps` records of the run of m
-- by instructions retired in them.
pub record IsAlike (v : Variant) (p : PipeMachine) (m : Machine) (cycles steps : ℕ) (q : PipeMachine) : Type 0 where
  pub goes : CallsFor p cycles q (records_from v m steps)
  pub count : length (records_from v m steps) ≡ steps

-- The first record that differs: the cycles before this one retired exactly the records before it, it retired in this
-- cycle, and the run by instructions has another record in its place, or none.
pub record IsFirstDifferent (v : Variant) (p : PipeMachine) (m : Machine) (d : RecordDiffers) : Type 0 where
  pub last : PipeMachine
  pub alike : IsAlike v p m (d.cycle - 1) d.before last
  pub after : PipeMachine
  pub goes : CallsFor p d.cycle after (records_from v m d.before ++ d.retired ∷ [])
  pub wanted : d.wanted ≡ retired v (run_from v m d.before)
  pub differs : d.wanted ≢ Some d.retired

-- the outcome of a comparison of at most `limit` cycles
abbrev pub IsCompared : Variant → PipeMachine → Machine → ℕ → Compared → Type 0
IsCompared v p m limit (Same steps cycles) =
    (q : PipeMachine) × IsAlike v p m cycles steps q × (cycles ≤ limit) × (is_aok q.end ≡ false) × SameState (end_of q) (run_from v m steps)
IsCompared v p m limit (Open steps) = (q : PipeMachine) × IsAlike v p m limit steps q × (is_aok q.end ≡ true)
IsCompared v p m limit (Record d) = (d.cycle ≤ limit) × IsFirstDifferent v p m d
IsCompared v p m limit (State steps cycles part) =
    (q : PipeMachine) × IsAlike v p m cycles steps q × (cycles ≤ limit) × (is_aok q.end ≡ false) × FirstDiffersIn (end_of q) (run_from v m steps) part

-- ---- one cycle

-- one cycle from p to q, and with the record that retired, if any, one step from m to n
pub record GoBoth (v : Variant) (p : PipeMachine) (m : Machine) (q : PipeMachine) (n : Machine) (count : ℕ) : Type 0 where
  pub answer : Cycled
  pub cycle : IsPipeCall p answer q
  pub records : option_to_list (record_in answer) ≡ records_from v m count
  pub counted : length (records_from v m count) ≡ count
  pub few : count ≤ 1
  pub machine : n ≡ run_from v m count

-- one cycle from p to q, whose record isn't that of the next instruction
pub record GoApart (v : Variant) (p : PipeMachine) (m : Machine) (q : PipeMachine) (one : Rec) (other : Option Rec) : Type 0 where
  pub answer : Cycled
  pub cycle : IsPipeCall p answer q
  pub retires : record_in answer ≡ Some one
  pub wanted : other ≡ retired v m
  pub differs : other ≢ Some one

-- the comparison of final states, after `steps` records and `cycles` cycles
abbrev pub EndsAs : Machine → Machine → ℕ → ℕ → Compared → Type 0
EndsAs m n steps cycles (Same a b) = (a ≡ steps) × (b ≡ cycles) × SameState m n
EndsAs m n steps cycles (Open a) = ⊥
EndsAs m n steps cycles (Record d) = ⊥
EndsAs m n steps cycles (State a b part) = (a ≡ steps) × (b ≡ cycles) × FirstDiffersIn m n part
