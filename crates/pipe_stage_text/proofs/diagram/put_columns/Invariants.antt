use Rattle.std.proofs.Common.{◌≡◌, ◌++◌, drop}
use Rattle.pipe_stage_text.specs.Diagram.{columns}
use Rattle.pipe_stage_text.proofs.diagram.put_columns.Given as goal

abbrev pub invariant-loop-one : goal.invariant-loop-one
invariant-loop-one l = l.out.items ++ columns (drop l.one-index l.cycles) ≡ l.fn.out.items ++ columns l.cycles
