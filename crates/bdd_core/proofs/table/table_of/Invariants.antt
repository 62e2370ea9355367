use Rattle.std.proofs.Common.{◌≡◌, ◌≤◌, length, take}
use Rattle.bdd_core.specs.Tables.{IsTable}
use Rattle.bdd_core.proofs.table.table_of.Given as goal

abbrev pub invariant-loop-at : goal.invariant-loop-at
invariant-loop-at l = record {
  within : l.at ≤ length l.list;
  size : length l.places.items ≡ l.size;
  table : IsTable (take l.at l.list) l.places.items;
}
