use Rattle.std.proofs.Common.{◌≤◌, length}
use Rattle.control_check.specs.Tails.{IsFilled}
use Rattle.control_check.proofs.pipe_verdict.fill.Given as goal

abbrev pub invariant-loop-k : goal.invariant-loop-k
invariant-loop-k l = record {
  filled : IsFilled l.fn.truths.items l._k l.truths.items;
  behind : length l.fn.truths.items ≤ l._k;
}
