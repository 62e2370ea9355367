use Rattle.std.proofs.Common.{◌≡◌, length}
use Rattle.bdd_decide.specs.Splitting.{AreOwn}
use Rattle.bdd_decide.proofs.least.forced_bits.Given as goal

abbrev pub invariant-loop-i : goal.invariant-loop-i
invariant-loop-i l = record {
  found : length l.found.items ≡ l.net.vars;
  own : AreOwn l.found.items l.i l.to.items;
}
