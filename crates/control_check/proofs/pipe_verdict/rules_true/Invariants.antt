use Rattle.std.proofs.Common.{◌≤◌, length}
use Rattle.control_check.specs.Tails.{AreTold}
use Rattle.control_check.proofs.pipe_verdict.rules_true.Given as goal

abbrev pub invariant-loop-k : goal.invariant-loop-k
invariant-loop-k l = record {
  told : AreTold l.net l.list l.truths.items;
  many : l._k ≤ length l.truths.items;
}
