use Rattle.std.proofs.Common.{◌≡◌, ◌+◌, ◌≤◌, List, Bool, length, true}
use Rattle.nets.specs.Nets.{truth}
use Rattle.nets.specs.Forcing.{AreMarkedTrue}
use Rattle.nets.proofs.implied.conjuncts.Given as goal

abbrev pub invariant-loop-i : goal.invariant-loop-i
invariant-loop-i l = record {
  within : l.i ≤ l.gate + 1;
  size : length l.marked.items ≡ length l.n.gates;
  marks : (u : List Bool) → truth l.n l.gate u ≡ true → AreMarkedTrue l.n l.marked.items u;
}

abbrev pub decreases-loop-i : goal.decreases-loop-i
decreases-loop-i l = l.i
