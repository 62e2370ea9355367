use Rattle.std.proofs.Common.{◌≡◌, ◌++◌, drop, map}
use Rattle.control_values.specs.Given.{assigned, at}
use Rattle.findings.specs.Findings.{finding}
use Rattle.findings.proofs.finding.findings_of.Given as goal

abbrev pub invariant-loop-requirement : goal.invariant-loop-requirement
invariant-loop-requirement l =
    l.out.items ++ map (finding l.defined l.terms (assigned l.scope.atoms.now l.scope.first l.scope.bits.now) (at l.scope.leaves.now)) (drop l.requirement-index l.all)
    ≡ map (finding l.defined l.terms (assigned l.scope.atoms.now l.scope.first l.scope.bits.now) (at l.scope.leaves.now)) l.all
