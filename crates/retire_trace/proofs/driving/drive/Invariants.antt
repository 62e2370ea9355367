use Rattle.std.proofs.Common.{◌≡◌, ◌+◌, ◌≤◌}
use Rattle.retire_trace.proofs.Driven.{Driven}
use Rattle.retire_trace.proofs.driving.drive.Given as goal

abbrev pub invariant-loop-k : goal.invariant-loop-k
invariant-loop-k g l = record {
  driven : Driven l.fn.p l.k l.p l.trace (g.S.Sink.taken l.fn.out) (g.S.Sink.taken l.out) l.retired;
  few : l.p.cycles ≤ l.fn.p.cycles + l.k;
  fewer : l.retired ≤ l.k;
  no_fault : g.S.Sink.faults l.out ≡ g.S.Sink.faults l.fn.out;
}
