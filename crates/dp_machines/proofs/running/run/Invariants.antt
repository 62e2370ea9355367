use Rattle.std.proofs.Common.{◌-◌, ◌≡◌, ◌≤◌, List, length}
use Rattle.y86_isa.specs.declared.machine.Rec.{Rec}
use Rattle.dp_signals.specs.After.{IsAfter}
use Rattle.dp_machines.proofs.running.run.Given as goal

abbrev pub invariant-loop-steps : goal.invariant-loop-steps
invariant-loop-steps g l = record {
  within : l.steps ≤ l.limit;
  calls : (records : List Rec) × IsAfter g.M.ClockedMachine.step l.fn.machine l.steps l.machine records × (length records ≡ l.steps);
}

abbrev pub decreases-loop-steps : goal.decreases-loop-steps
decreases-loop-steps g l = l.limit - l.steps
