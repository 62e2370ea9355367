use Rattle.aiger_out.specs.Rows.{IsFine, row}
use Rattle.aiger_out.proofs.checks.first_fault.Given as goal

abbrev pub invariant-loop-j : goal.invariant-loop-j
invariant-loop-j l = IsFine l.t.header (row l.t.rows.items) l.j
