use Rattle.std.proofs.Common.{◌≡◌, ◌++◌, length, map, take, drop}
use Rattle.dp_signals.specs.Lines.{word_in}
use Rattle.dp_signals.proofs.tables.put_words.Given as goal

abbrev pub invariant-loop-row : goal.invariant-loop-row
invariant-loop-row l =
    record {
      size : length l.values ≡ length l.fn.values;
      put : l.values ≡ map word_in (take l.row l.lines) ++ drop l.row l.fn.values;
    }
