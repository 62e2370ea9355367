use Rattle.std.proofs.Common.{◌&&◌, nat_lt, get_or, false}
use Rattle.nets.specs.Nets.{ExtendsNet}
use Rattle.ctl_rules.specs.ControlGates.{IsControlGate}
use Rattle.pipe_obligations.specs.Obligations.{code_of}
use Rattle.pipe_motion_gates.proofs.fetch.code_listed.Given as goal

abbrev pub invariant-loop-k : goal.invariant-loop-k
invariant-loop-k l = record {
  begins : ExtendsNet l.fn.b l.b;
  asked : IsControlGate l.b l.ctl l.any (λ w α cv. nat_lt (code_of (cv l.name)) l.k && get_or l.list (code_of (cv l.name)) false);
}
