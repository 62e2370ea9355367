use Rattle.std.proofs.Common.{IsTrue}
use Rattle.dp_signals.specs.PipeEquations.{constants}
use Rattle.hcl_types.specs.Signals.{Starts}
use Rattle.seq_text.specs.Observer.{Observes, Shows}
use Rattle.seq_text.proofs.watching.watch_sequential.Given as goal

abbrev pub invariant-loop-k : goal.invariant-loop-k
invariant-loop-k g l = record {
  watches : Observes (Shows g.S.Sequential.path g.S.ShownDatapath.text l.processor.variant l.processor.ordered.now.design.terms) g.S.Sequential.path.stat
      l.window (g.S.Sequential.path.start l.fn.request.image) l.k l.s.state l.s.text.items;
  kept : g.C.SignalEval.evaluates l.evaluator l.processor.ordered.now.design.terms;
  fits : IsTrue l.fits → Starts (g.C.SignalEval.assumes l.evaluator) constants;
}
