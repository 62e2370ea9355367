use Rattle.std.proofs.Common.{◌≡◌, ◌++◌}
use Rattle.yis_run.specs.Report.{each_below}
use Rattle.pipe_stage_text.specs.Diagram.{nth_line}
use Rattle.pipe_stage_text.specs.Listed.{text_in}
use Rattle.pipe_stage_text.proofs.diagram.put_rows.Given as goal

abbrev pub invariant-loop-before : goal.invariant-loop-before
invariant-loop-before l = l.out.items ≡ l.fn.out.items ++ each_below l.before (nth_line (text_in l.listing.entries) l.cycles)
