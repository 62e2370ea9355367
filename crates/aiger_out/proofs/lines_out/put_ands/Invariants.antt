use Rattle.std.proofs.Common.{◌≡◌, ◌++◌}
use Rattle.y86_base.specs.Text.{with_line_feeds}
use Rattle.aiger_out.specs.Written.{and_text, each}
use Rattle.aiger_out.specs.WrittenLines.{and_line_of}
use Rattle.aiger_out.proofs.lines_out.put_ands.Given as goal

abbrev pub invariant-loop-k : goal.invariant-loop-k
invariant-loop-k l = l.out.items ≡ l.initial.out.items ++ with_line_feeds (each (λ i. and_text (and_line_of l.inputs l.ands i)) l.k)
