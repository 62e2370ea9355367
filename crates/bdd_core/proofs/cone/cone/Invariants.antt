use Rattle.std.proofs.Common.{◌≤◌, ◌≡◌, length, get_or, true, false}
use Rattle.bdd_core.proofs.Gates.{IsConeFrom}
use Rattle.bdd_core.proofs.cone.cone.Given as goal

abbrev pub invariant-loop-i : goal.invariant-loop-i
invariant-loop-i l = record {
  within : l.i ≤ length l.n.gates;
  root : get_or l.needed.items l.gate false ≡ true;
  cone : IsConeFrom l.n l.needed.items l.i;
}

abbrev pub decreases-loop-i : goal.decreases-loop-i
decreases-loop-i l = l.i
