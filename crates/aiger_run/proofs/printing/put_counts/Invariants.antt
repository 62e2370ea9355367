use Rattle.std.proofs.Common.{◌≡◌, ◌++◌, get_or}
use Rattle.y86_base.specs.Text.{with_line_feeds}
use Rattle.aiger_out.specs.Written.{each}
use Rattle.aiger_run.specs.PrintedCounts.{count_line}
use Rattle.aiger_run.proofs.printing.put_counts.Given as goal

abbrev pub invariant-loop-i : goal.invariant-loop-i
invariant-loop-i l = l.out.items ≡ l.initial.out.items ++ with_line_feeds (each (λ k. count_line k (get_or l.counts k 0)) l.i)
