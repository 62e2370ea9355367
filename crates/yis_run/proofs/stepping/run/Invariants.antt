use Rattle.std.proofs.Common.{◌≡◌, ◌≤◌, ◌-◌, length}
use Rattle.y86_isa.specs.Run.{records_from, run_from}
use Rattle.yis_run.proofs.stepping.run.Given as goal

abbrev pub invariant-loop-steps : goal.invariant-loop-steps
invariant-loop-steps l = record {
  within : l.steps ≤ l.limit;
  machine : l.m ≡ run_from l.v l.fn.m l.steps;
  records : l.steps ≡ length (records_from l.v l.fn.m l.steps);
}

abbrev pub decreases-loop-steps : goal.decreases-loop-steps
decreases-loop-steps l = l.limit - l.steps
