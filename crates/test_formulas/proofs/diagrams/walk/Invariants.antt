use Rattle.bdd_core.specs.Meaning.{IsDia}
use Rattle.test_formulas.proofs.diagrams.walk.Given as goal

abbrev pub invariant-loop : goal.invariant-loop
invariant-loop l = record { inside : IsDia l.store l.d }
