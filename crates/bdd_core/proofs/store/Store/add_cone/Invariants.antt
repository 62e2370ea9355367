use Rattle.std.proofs.Common.{◌≤◌, ◌-◌, ◌+◌}
use Rattle.bdd_core.specs.Diagrams.{Keeps, IsReduced}
use Rattle.bdd_core.specs.Building.{AreKnown, KnowsAll, KnowsBefore}
use Rattle.bdd_core.proofs.store.Store.add_cone.Given as goal

abbrev pub invariant-loop-i : goal.invariant-loop-i
invariant-loop-i l = record {
  within : l.i ≤ l.gate + 1;
  kept : Keeps l.fn.self l.self;
  well : IsReduced l.self;
  known : AreKnown l.self l.n l.built;
  all : KnowsAll l.fn.built l.built;
  before : KnowsBefore l.needed.items l.built l.i;
}

abbrev pub decreases-loop-i : goal.decreases-loop-i
decreases-loop-i l = l.gate + 1 - l.i
