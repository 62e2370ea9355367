-- What `psim` and `yis` print for a program that stops, if it is what the run by instructions says.
use Rattle.std.specs.Prelude.{◌≡◌, ℕ, ◌*◌, ◌≤◌, Bool, List, ◌++◌}
use Rattle.retire_trace.specs.Drive.{traced}
use Rattle.wb_io.specs.Sinks.{Appended}
use Rattle.y86_base.specs.declared.parts.Variant.{Variant}
use Rattle.y86_isa.specs.Run.{records, run}
use Rattle.yis_run.specs.Report.{report}
use Rattle.cli_plans.specs.Stages.{run_status}
use Rattle.cli_plans.specs.PlanFollowing.{SinkState}
use Rattle.cli_runs.specs.PipeRuns.{ran_line}

-- The trace, if it is asked for, is that of the records of the run by instructions, which stops after `steps` steps.
-- The report is that of the machine at its end, and so is the status. There are at most five cycles for each step.
pub record PrintsRun (v : Variant) (image : List ℕ) (steps : ℕ) (trace : Bool) (before after : SinkState) (status : ℕ) : Type 0 where
  pub cycles : ℕ
  pub in_time : cycles ≤ 5 * steps
  pub status_is : status ≡ run_status (run v image steps).stat
  pub told : Appended before.taken after.taken (traced trace (records v image steps) ++ (ran_line cycles steps ++ report image (run v image steps) steps))

-- the report alone, with the same status
pub record PrintsReport (v : Variant) (image : List ℕ) (steps : ℕ) (before after : SinkState) (status : ℕ) : Type 0 where
  pub status_is : status ≡ run_status (run v image steps).stat
  pub told : Appended before.taken after.taken (report image (run v image steps) steps)
