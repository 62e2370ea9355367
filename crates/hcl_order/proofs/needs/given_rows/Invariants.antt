use Rattle.std.proofs.Common.{◌≡◌, ◌++◌, drop}
use Rattle.hcl_types.specs.Tables.{known}
use Rattle.hcl_order.proofs.needs.given_rows.Given as goal

abbrev pub invariant-loop-row : goal.invariant-loop-row
invariant-loop-row l = l.all.items ++ known (drop l.row-index l.rows) ≡ known l.rows
