use Rattle.std.proofs.Common.{◌<◌, length}
use Rattle.hcl_types.specs.Equations.{needs_of}
use Rattle.hcl_order.proofs.Choosing.{IsOnWay}
use Rattle.hcl_order.proofs.cycle.way_back.Given as goal

abbrev pub invariant-loop-left : goal.invariant-loop-left
invariant-loop-left l = (l.at < length l.needs) × IsOnWay (needs_of l.needs) l.marks l.row l.size l.at l.left l.ids.items

abbrev pub decreases-loop-left : goal.decreases-loop-left
decreases-loop-left l = l.left
