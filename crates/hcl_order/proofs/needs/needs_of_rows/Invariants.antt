use Rattle.std.proofs.Common.{◌≡◌, ◌++◌, ◌≤◌, drop}
use Rattle.hcl_types.specs.Tables.{needs, needs_from}
use Rattle.hcl_order.proofs.needs.needs_of_rows.Given as goal

abbrev pub invariant-loop-row : goal.invariant-loop-row
invariant-loop-row l = (l.all.items ++ needs_from l.k (drop l.row-index l.rows) l.terms ≡ needs l.rows l.terms) × (l.k ≤ l.row-index)
