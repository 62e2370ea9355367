use Rattle.std.proofs.Common.{arith}
use Rattle.bdd_core.proofs.Adding.{none_well}
use Rattle.bdd_core.proofs.Tables.{table_none}
use Rattle.bdd_core.proofs.nodes.Nodes.new.Goals as goal

pub invariant_of-result : goal.invariant_of-result
invariant_of-result c = rw (c.new.ensures.items, c.new-2.ensures.items) (record { well = none_well c.args.vars; table = table_none 0; few = omega arith })
