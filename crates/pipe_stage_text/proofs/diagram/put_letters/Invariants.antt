use Rattle.std.proofs.Common.{◌≡◌, ◌++◌, drop}
use Rattle.pipe_stage_text.specs.Diagram.{letters}
use Rattle.pipe_stage_text.proofs.diagram.put_letters.Given as goal

abbrev pub invariant-loop-one : goal.invariant-loop-one
invariant-loop-one l = l.out.items ++ letters l.row (drop l.one-index l.cycles) ≡ l.fn.out.items ++ letters l.row l.cycles
