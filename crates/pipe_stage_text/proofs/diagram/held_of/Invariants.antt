use Rattle.std.proofs.Common.{◌≡◌, drop}
use Rattle.pipe_stage_text.specs.Diagram.{held_of}
use Rattle.pipe_stage_text.proofs.diagram.held_of.Given as goal

abbrev pub invariant-loop-one : goal.invariant-loop-one
invariant-loop-one l = held_of l.row l.cycles ≡ held_of l.row (drop l.one-index l.cycles)
