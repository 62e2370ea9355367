use Rattle.std.proofs.Common.{◌&&◌, nat_lt}
use Rattle.nets.specs.Nets.{ExtendsNet, IsGate}
use Rattle.net_fields.specs.Spelling.{spelt}
use Rattle.pipe_gates.specs.Columns.{has}
use Rattle.pipe_gates.proofs.fields.row_has.Given as goal

abbrev pub invariant-loop-k : goal.invariant-loop-k
invariant-loop-k l = record {
  begins : ExtendsNet l.fn.b l.b;
  made : IsGate l.b l.any (λ w. nat_lt (spelt w l.icode.first l.icode.bits) l.k && has l.v l.test (spelt w l.icode.first l.icode.bits));
}
