use Rattle.std.proofs.Common.{◌&&◌, nat_lt}
use Rattle.nets.specs.Nets.{ExtendsNet}
use Rattle.ctl_rules.specs.ControlGates.{IsControlGate}
use Rattle.pipe_gates.specs.Columns.{has}
use Rattle.pipe_obligations.specs.Obligations.{code_of}
use Rattle.pipe_motion_gates.proofs.fetch.code_has.Given as goal

abbrev pub invariant-loop-k : goal.invariant-loop-k
invariant-loop-k l = record {
  begins : ExtendsNet l.fn.b l.b;
  asked : IsControlGate l.b l.ctl l.any (λ w α cv. nat_lt (code_of (cv l.name)) l.k && has l.v l.test (code_of (cv l.name)));
}
