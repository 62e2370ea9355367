use Rattle.bdd_core.proofs.Tables.{table_unique}
use Rattle.bdd_core.proofs.table.with_room.Goals as goal

pub table_of-requires-clause-unique : goal.table_of-requires-clause-unique
table_of-requires-clause-unique c = table_unique c.requires.table
