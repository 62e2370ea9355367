use Rattle.hcl_order.specs.Arranging.{IsArranged, undone}
use Rattle.hcl_order.proofs.arrange.arrange_rows.Given as goal

abbrev pub invariant-loop : goal.invariant-loop
invariant-loop l = IsArranged l.needs l.fn.done l.done l.ids.items

abbrev pub decreases-loop : goal.decreases-loop
decreases-loop l = undone l.done
