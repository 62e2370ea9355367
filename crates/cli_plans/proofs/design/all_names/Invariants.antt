use Rattle.std.proofs.Common.{◌≡◌, take}
use Rattle.hcl_types.specs.Tables.{row_names}
use Rattle.cli_plans.specs.Lines.{blank_names, names_at}
use Rattle.cli_plans.proofs.design.all_names.Given as goal

abbrev pub invariant-loop-id : goal.invariant-loop-id
invariant-loop-id l = l.names.items ≡ blank_names (names_at (row_names l.rows) (take l.id-index l.ids))
