use Rattle.std.proofs.Common.{◌≡◌, length}
use Rattle.bdd_decide.specs.Decisions.{AreDecided}
use Rattle.bdd_decide.specs.Splitting.{AreDiagramsOf}
use Rattle.bdd_decide.proofs.net_diagrams.each_true.Given as goal

abbrev pub invariant-loop-k : goal.invariant-loop-k
invariant-loop-k l = record {
  diagrams : AreDiagramsOf l.copy.net l.diagrams;
  size : length l.truths.items ≡ l.k;
  decided : AreDecided l.net l.gates l.truths.items;
}
