use Rattle.std.proofs.Common.{◌*◌, ◌≤◌, IsTrue}
use Rattle.dp_signals.specs.PipeEquations.{constants}
use Rattle.hcl_types.specs.Signals.{Starts}
use Rattle.pipe_stage_text.specs.Observer.{Observes}
use Rattle.pipe_stage_text.proofs.observer.watch_listed.Given as goal

abbrev pub invariant-loop-k : goal.invariant-loop-k
invariant-loop-k g l = record {
  watches : Observes l.processor.variant l.processor.ordered.now.design.terms l.window l.fn.request.image l.k l.s;
  rows : l.s.watch.rows ≤ 5 * l.k;
  retired : l.s.retired ≤ l.k;
  kept : g.C.SignalEval.evaluates l.evaluator l.processor.ordered.now.design.terms;
  fits : IsTrue l.fits → Starts (g.C.SignalEval.assumes l.evaluator) constants;
}
