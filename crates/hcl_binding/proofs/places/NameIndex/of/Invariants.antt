use Rattle.std.proofs.Common.{◌≡◌, map, take}
use Rattle.hcl_binding.specs.Places.{bytes_of}
use Rattle.hcl_types.specs.Tables.{row_names}
use Rattle.hcl_binding.proofs.places.NameIndex.of.Given as goal

abbrev pub invariant-loop-row : goal.invariant-loop-row
invariant-loop-row l = map bytes_of l.names.keys ≡ row_names (take l.row-index l.rows)
