use Rattle.std.proofs.Common.{length, ◌-◌, ◌≡◌, ◌≤◌}
use Rattle.nets.specs.Parts.{AreSourcesOf}
use Rattle.nets.proofs.parts.sources.Given as goal

abbrev pub invariant-loop-i : goal.invariant-loop-i
invariant-loop-i l = record {
  within : l.i ≤ length l.order;
  size : length l.to.items ≡ l.i;
  are : AreSourcesOf l.fixed l.order l.to.items;
}

abbrev pub decreases-loop-i : goal.decreases-loop-i
decreases-loop-i l = length l.order - l.i
