use Rattle.nets.specs.Nets.{ExtendsNet}
use Rattle.aiger_out.specs.Rows.{row}
use Rattle.aiger_out.specs.Solution.{AreBuilt}
use Rattle.aiger_out.proofs.build.put_lines.Given as goal

abbrev pub invariant-loop-j : goal.invariant-loop-j
invariant-loop-j l = record {
  begins : ExtendsNet l.initial.b l.b;
  built : AreBuilt l.t.header (row l.t.rows.items) l.j l.b l.gates l.none;
}
