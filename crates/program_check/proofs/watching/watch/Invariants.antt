use Rattle.std.proofs.Common.{◌≡◌, ◌-◌, ◌≤◌, length}
use Rattle.yis_pure_runs.specs.Near.{NearPure}
use Rattle.y86_isa.specs.Run.{records, run}
use Rattle.program_check.proofs.Told.{AreRecent}
use Rattle.program_check.proofs.watching.watch.Given as goal

abbrev pub invariant-loop-steps : goal.invariant-loop-steps
invariant-loop-steps l = record {
  within : l.steps ≤ l.limit;
  machine : l.machine ≡ run l.v l.fn.image l.steps;
  recent : AreRecent l.v l.fn.image l.steps l.recent;
  pure : NearPure l.v l.fn.image l.steps;
  count : l.steps ≡ length (records l.v l.fn.image l.steps);
}

abbrev pub decreases-loop-steps : goal.decreases-loop-steps
decreases-loop-steps l = l.limit - l.steps
