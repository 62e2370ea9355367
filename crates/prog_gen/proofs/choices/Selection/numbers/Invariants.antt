use Rattle.std.proofs.Common.{◌≡◌, ◌≤◌, length}
use Rattle.std.specs.List.{filter, range_with_len}
use Rattle.prog_gen.specs.Spans.{is_selected}
use Rattle.prog_gen.proofs.choices.Selection.numbers.Given as goal

abbrev pub invariant-loop-n : goal.invariant-loop-n
invariant-loop-n l = record {
  some : l.some.items ≡ filter (is_selected l.self) (range_with_len 0 l.n);
  few : length l.some.items ≤ l.n;
  most : l.end ≤ 16;
}
