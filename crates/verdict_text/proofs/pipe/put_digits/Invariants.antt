use Rattle.std.proofs.Common.{◌≡◌, ◌++◌, drop}
use Rattle.verdict_text.specs.PipeLines.{digits}
use Rattle.verdict_text.proofs.pipe.put_digits.Given as goal

abbrev pub invariant-loop-truth : goal.invariant-loop-truth
invariant-loop-truth l = l.out.items ++ digits (drop l.truth-index l.truths) ≡ l.fn.out.items ++ digits l.truths
