use Rattle.std.proofs.Common.{◌≡◌, ◌≤◌, ◌-◌, length, take}
use Rattle.aiger_out.specs.Graphs.{IsGraphOf}
use Rattle.aiger_out.proofs.graph.graph_of.Given as goal

abbrev pub invariant-loop-i : goal.invariant-loop-i
invariant-loop-i l = record {
  vars : l.vars ≡ l.n.vars;
  within : l.i ≤ length l.n.gates;
  graph : IsGraphOf l.vars (take l.i l.n.gates) l.literals.items l.ands.items;
}

abbrev pub decreases-loop-i : goal.decreases-loop-i
decreases-loop-i l = length l.n.gates - l.i
