use Rattle.std.proofs.Common.{◌-◌, ◌≡◌, ◌≤◌, length}
use Rattle.nets.specs.Substitution.{AreCopies}
use Rattle.nets.proofs.copies.substitute.Given as goal

abbrev pub invariant-loop-i : goal.invariant-loop-i
invariant-loop-i l = record {
  within : l.i ≤ length l.n.gates;
  vars : l.b.vars ≡ l.fn.vars;
  size : length l.made.items ≡ l.i;
  copies : AreCopies l.n l.b l.to l.made.items;
}

abbrev pub decreases-loop-i : goal.decreases-loop-i
decreases-loop-i l = length l.n.gates - l.i
