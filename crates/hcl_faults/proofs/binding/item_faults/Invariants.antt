use Rattle.std.proofs.Common.{length}
use Rattle.std.specs.Vec.Iter.{into_iter_items}
use Rattle.hcl_faults.proofs.ItemLemmas.{Gathered}
use Rattle.hcl_faults.proofs.binding.item_faults.Given as goal

abbrev pub invariant-items : goal.invariant-items
invariant-items l = Gathered l.table.rows l.fn.file.items l.list.items l.done.items (into_iter_items l.left)

abbrev pub decreases-items : goal.decreases-items
decreases-items l = length (into_iter_items l.left)
