use Rattle.nets.specs.Nets.{ExtendsNet}
use Rattle.aiger_out.specs.Rows.{row}
use Rattle.aiger_out.specs.Solution.{AreOutputs, gate_values}
use Rattle.aiger_out.proofs.build.put_outputs.Given as goal

abbrev pub invariant-loop-i : goal.invariant-loop-i
invariant-loop-i l = record {
  begins : ExtendsNet l.initial.b l.b;
  outputs : AreOutputs l.t.header (row l.t.rows.items) (gate_values l.initial.b l.gates l.none) l.i l.b l.outs.items;
}
