use Rattle.bdd_core.proofs.Least.{IsDown}
use Rattle.bdd_core.proofs.store.Store.least_false.Given as goal

abbrev pub invariant-loop-at : goal.invariant-loop-at
invariant-loop-at l = record {
  down : IsDown l.self l.fn.d l.at l.bits.items;
}

abbrev pub decreases-loop-at : goal.decreases-loop-at
decreases-loop-at l = l.at
