use Rattle.hcl_types.specs.Equations.{needs_of}
use Rattle.hcl_order.specs.Layers.{IsLayered}
use Rattle.hcl_order.proofs.layers.mark_layer.Given as goal

abbrev pub invariant-loop-row : goal.invariant-loop-row
invariant-loop-row l = IsLayered (needs_of l.needs) l.level l.initial.marks l.marks l.added l.row
