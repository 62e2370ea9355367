use Rattle.std.proofs.Common.{◌≡◌, length}
use Rattle.hcl_types.specs.Equations.{needs_of}
use Rattle.hcl_order.specs.Layers.{unmarked}
use Rattle.hcl_order.proofs.Layering.{IsSearched}
use Rattle.hcl_order.proofs.layers.cycle_length.Given as goal

abbrev pub invariant-loop-marks : goal.invariant-loop-marks
invariant-loop-marks l = (length l.marks ≡ length l.fn.marks) × IsSearched (needs_of l.needs) l.row l.level l.marks

abbrev pub decreases-loop-marks : goal.decreases-loop-marks
decreases-loop-marks l = unmarked l.marks
