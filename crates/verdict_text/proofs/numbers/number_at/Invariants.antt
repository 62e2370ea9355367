use Rattle.std.proofs.Common.{◌≡◌, ◌%◌, ◌^◌}
use Rattle.net_fields.specs.Spelling.{spelt}
use Rattle.verdict_text.proofs.numbers.number_at.Given as goal

abbrev pub invariant-loop-k : goal.invariant-loop-k
invariant-loop-k l = l.n ≡ spelt l.bits l.first l.k % 2 ^ 64
