use Rattle.std.proofs.Common.{◌≡◌, ◌-◌, ◌+◌, length, take, ◌++◌}
use Rattle.prog_gen.specs.Choices.{truths_drawn}
use Rattle.prog_gen.proofs.valuations.draw_truths.Given as goal

abbrev pub invariant-loop-k : goal.invariant-loop-k
invariant-loop-k l = record {
  rest : take l.k l.out ++ truths_drawn (length l.fn.out - l.k) l.draws ≡ take l.from l.fn.out ++ truths_drawn (length l.fn.out - l.from) l.fn.draws;
}
