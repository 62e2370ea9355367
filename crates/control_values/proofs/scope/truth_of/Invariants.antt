use Rattle.std.proofs.Common.{◌≡◌, ◌+◌, drop}
use Rattle.control_values.specs.Given.{truth_from}
use Rattle.control_values.proofs.scope.truth_of.Given as goal

abbrev pub invariant-loop-i : goal.invariant-loop-i
invariant-loop-i l = truth_from (l.first + l.i) (drop l.i l.atoms) l.bits l.atom ≡ truth_from l.first l.atoms l.bits l.atom
