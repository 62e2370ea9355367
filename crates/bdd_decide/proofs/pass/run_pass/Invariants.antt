use Rattle.std.proofs.Common.{◌≡◌}
use Rattle.bdd_core.specs.Building.{AreKnown}
use Rattle.bdd_decide.specs.Splitting.{AreTrueTo}
use Rattle.bdd_decide.proofs.pass.run_pass.Given as goal

abbrev pub invariant-loop-k : goal.invariant-loop-k
invariant-loop-k l = record {
  vars : l.store.vars ≡ l.net.vars;
  known : AreKnown l.store l.net l.built;
  earlier : AreTrueTo l.net l.gates l.k;
}
