use Rattle.std.proofs.Common.{◌≡◌, length}
use Rattle.asm_faults.specs.Stops.{stop_of}
use Rattle.asm_faults.proofs.stops.stop_of.Given as goal

abbrev pub invariant-parts : goal.invariant-parts
invariant-parts l = stop_of l.left l.rest ≡ stop_of l.parts l.bytes

abbrev pub decreases-parts : goal.decreases-parts
decreases-parts l = length l.left
