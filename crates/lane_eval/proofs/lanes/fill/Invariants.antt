use Rattle.std.proofs.Common.{◌-◌, ◌≡◌, ◌≤◌, ◌<◌, ℕ, take, []}
use Rattle.nets.specs.Nets.{values}
use Rattle.lane_eval.specs.Lanes.{across}
use Rattle.lane_eval.proofs.lanes.fill.Given as goal

abbrev pub invariant-loop-i : goal.invariant-loop-i
invariant-loop-i l = record {
  within : l.i ≤ l.count;
  told : (p : ℕ) → p < 512 → across p (take l.i l.truths) ≡ values (across p l.lanes) [] (take l.i l.n.gates);
}

abbrev pub decreases-loop-i : goal.decreases-loop-i
decreases-loop-i l = l.count - l.i
