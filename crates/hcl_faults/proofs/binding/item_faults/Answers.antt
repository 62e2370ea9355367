use Rattle.std.specs.Vec.Iter.{into_iter_items}
use Rattle.hcl_faults.proofs.ItemLemmas.{gathered_as, gathered_faults, none_left}
use Rattle.hcl_faults.proofs.binding.item_faults.Goals as goal

pub items-preserved : goal.items-preserved
items-preserved c =
    gathered_as c.args.table.now.rows c.args.file.items c.items.list.items c.add_item.new.list.items c.items.done.items c.add_item.new.done.items
    (into_iter_items c.items.left) (into_iter_items c.next.new.self) c.in-Some.item c.items.invariant c.in-Some.ensures.items c.in-Ok.ensures.list c.in-Ok.ensures.done

pub returns-in-None-clause-faults : goal.returns-in-None-clause-faults
returns-in-None-clause-faults c =
    gathered_faults c.args.table.now.rows c.args.file.items c.items.list.items c.items.done.items (into_iter_items c.items.left) c.items.invariant
    (none_left (into_iter_items c.items.left) c.items.left.rest.len c.items.left.rest.ok.0 c.in-None.ensures.cases.0)
