use Rattle.std.proofs.Common.{◌≡◌, List, Bool, length}
use Rattle.nets.specs.Substitution.{AreSources}
use Rattle.nets.specs.Forcing.{SubstituteAgrees}
use Rattle.nets.proofs.implied.themselves.Given as goal

abbrev pub invariant-loop-i : goal.invariant-loop-i
invariant-loop-i l = record {
  size : length l.to.items ≡ l.i;
  sources : AreSources l.vars l.to.items;
  settle : (u : List Bool) → SubstituteAgrees l.to.items u;
}
