use Rattle.std.proofs.Common.{◌≡◌, ◌≤◌}
use Rattle.prog_gen.specs.Choices.{with_field}
use Rattle.prog_gen.proofs.valuations.put_bits.Given as goal

abbrev pub invariant-loop-k : goal.invariant-loop-k
invariant-loop-k l = record { within : l.k ≤ l.bits; rest : with_field l.out l.first l.k l.left ≡ with_field l.fn.out l.first l.bits l.n }

abbrev pub decreases-loop-k : goal.decreases-loop-k
decreases-loop-k l = l.k
