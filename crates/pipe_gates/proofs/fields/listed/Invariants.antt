use Rattle.std.proofs.Common.{◌&&◌, nat_lt, false, get_or}
use Rattle.nets.specs.Nets.{ExtendsNet, IsGate}
use Rattle.net_fields.specs.Spelling.{spelt}
use Rattle.pipe_gates.proofs.fields.listed.Given as goal

abbrev pub invariant-loop-i : goal.invariant-loop-i
invariant-loop-i l = record {
  begins : ExtendsNet l.fn.b l.b;
  made : IsGate l.b l.any (λ w. nat_lt (spelt w l.p.first l.p.bits) l.i && get_or l.list (spelt w l.p.first l.p.bits) false);
}
