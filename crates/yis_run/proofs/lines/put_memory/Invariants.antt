use Rattle.std.proofs.Common.{◌≡◌}
use Rattle.wb_io.specs.Sinks.{Appended}
use Rattle.yis_run.specs.Report.{each_below, memory_line}
use Rattle.yis_run.proofs.lines.put_memory.Given as goal

abbrev pub invariant-loop-n : goal.invariant-loop-n
invariant-loop-n g l = record {
  taken : Appended (g.S.Sink.taken l.fn.out) (g.S.Sink.taken l.out) (each_below l.n (memory_line l.first l.memory));
  no_fault : g.S.Sink.faults l.out ≡ g.S.Sink.faults l.fn.out;
}
