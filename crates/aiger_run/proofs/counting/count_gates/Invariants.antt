use Rattle.aiger_run.specs.Counts.{AreCounted}
use Rattle.aiger_run.proofs.counting.count_gates.Given as goal

abbrev pub invariant-loop-i : goal.invariant-loop-i
invariant-loop-i l = AreCounted l.s l.gates l.i l.counts.items
