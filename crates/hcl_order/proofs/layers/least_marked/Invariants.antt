use Rattle.hcl_order.proofs.Leasts.{IsLeast}
use Rattle.hcl_order.proofs.layers.least_marked.Given as goal

abbrev pub invariant-loop-row : goal.invariant-loop-row
invariant-loop-row l = IsLeast l.needs l.marks l.mark l.row-index l.least
