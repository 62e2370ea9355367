use Rattle.aiger_out.specs.Rows.{AreFirsts, row}
use Rattle.aiger_out.proofs.table.mark_all.Given as goal

abbrev pub invariant-loop-j : goal.invariant-loop-j
invariant-loop-j l = AreFirsts l.h (row l.rows) l.j l.firsts
