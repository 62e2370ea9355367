use Rattle.std.proofs.Common.{◌≡◌, ◌<◌, ◌^◌}
use Rattle.net_fields.specs.Spelling.{spelt}
use Rattle.control_values.proofs.filling.number_at.Given as goal

abbrev pub invariant-loop-k : goal.invariant-loop-k
invariant-loop-k l = record {
  spells : l.n ≡ spelt l.bits l.first l.k;
  small : l.n < 2 ^ l.k;
}
