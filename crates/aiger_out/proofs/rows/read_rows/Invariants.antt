use Rattle.aiger_out.specs.Rows.{AreRows}
use Rattle.aiger_out.proofs.rows.read_rows.Given as goal

abbrev pub invariant-loop-j : goal.invariant-loop-j
invariant-loop-j l = AreRows l.h l.text l.j l.rows.items l.rest
