use Rattle.std.proofs.Common.{◌≡◌, ◌+◌, ◌*◌, ◌++◌}
use Rattle.y86_base.specs.Text.{with_line_feeds}
use Rattle.aiger_out.specs.Written.{decimal, each}
use Rattle.aiger_out.proofs.lines_out.put_inputs.Given as goal

abbrev pub invariant-loop-k : goal.invariant-loop-k
invariant-loop-k l = l.out.items ≡ l.initial.out.items ++ with_line_feeds (each (λ i. decimal (2 * (i + 1))) l.k)
