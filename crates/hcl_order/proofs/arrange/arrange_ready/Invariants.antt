use Rattle.std.proofs.Common.{Bool, List}
use Rattle.hcl_types.specs.Equations.{needs_of}
use Rattle.hcl_order.specs.Arranging.{IsArranged, IsPassed}
use Rattle.hcl_order.proofs.arrange.arrange_ready.Given as goal

abbrev pub invariant-loop-row : goal.invariant-loop-row
invariant-loop-row l =
    IsPassed (needs_of l.needs) l.row l.fn.done l.done l.added
    × ((known : List Bool) → IsArranged l.needs known l.fn.done l.fn.ids.items → IsArranged l.needs known l.done l.ids.items)
