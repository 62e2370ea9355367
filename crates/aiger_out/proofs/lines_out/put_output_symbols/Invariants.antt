use Rattle.std.proofs.Common.{◌≡◌, ◌++◌}
use Rattle.y86_base.specs.Text.{with_line_feeds}
use Rattle.aiger_out.specs.Written.{each}
use Rattle.aiger_out.specs.WrittenLines.{numbers_of, output_symbol_of}
use Rattle.aiger_out.proofs.lines_out.put_output_symbols.Given as goal

abbrev pub invariant-loop-k : goal.invariant-loop-k
invariant-loop-k l = l.out.items ≡ l.initial.out.items ++ with_line_feeds (each (output_symbol_of (numbers_of l.rules)) l.k)
