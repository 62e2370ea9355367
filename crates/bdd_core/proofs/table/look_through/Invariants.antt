use Rattle.std.proofs.Common.{◌≡◌, ◌≤◌, length, drop}
use Rattle.bdd_core.specs.Tables.{further}
use Rattle.bdd_core.specs.Tables as tables
use Rattle.bdd_core.proofs.table.look_through.Given as goal

abbrev pub invariant-loop-i : goal.invariant-loop-i
invariant-loop-i l = record {
  within : l.i ≤ length l.places;
  so_far : tables.look_through l.list l.c l.places ≡ further l.i (tables.look_through l.list l.c (drop l.i l.places));
}
