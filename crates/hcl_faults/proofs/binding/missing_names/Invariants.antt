use Rattle.std.proofs.Common.{◌≡◌, ◌++◌, drop}
use Rattle.hcl_faults.specs.BindFaults.{missing_names}
use Rattle.hcl_faults.proofs.binding.missing_names.Given as goal

abbrev pub invariant-loop-row : goal.invariant-loop-row
invariant-loop-row l = l.names.items ++ missing_names (drop l.row-index l.rows) l.items ≡ missing_names l.rows l.items
