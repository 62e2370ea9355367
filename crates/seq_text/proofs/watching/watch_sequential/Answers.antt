use Rattle.std.proofs.Common.{sym, ◌∙◌, ap, arith}
use Rattle.pipe_stage_text.specs.declared.observer.ObservedRun.{ObservedRun}
use Rattle.y86_isa.specs.Machine.{is_aok}
use Rattle.seq_text.proofs.Runs.{at_limit, before_limit, shows_run, watches_more}
use Rattle.seq_text.proofs.watching.watch_sequential.Goals as goal

pub loop-k-preserved : goal.loop-k-preserved
loop-k-preserved g c =
    let before = c.loop-k.invariant in
    let went = c.in-Ok.ensures.cycle in
    record {
      watches = watches_more _ _ _ _ c.loop-k.k c.loop-k.s.state _ _ _ went.0 before.watches
          (ap is_aok (sym c.status_in-stat.ensures) ∙ (sym c.is_aok_stat.ensures ∙ c.if-not-is_aok_stat.false)) went.1 went.2;
      kept = c.in-Ok.ensures.kept;
      fits = rw c.in-Ok.ensures.same before.fits;
    }

pub returns-then-not-is_aok_stat : goal.returns-then-not-is_aok_stat
returns-then-not-is_aok_stat g c =
    shows_run _ _ _ _ _ _ _ _ (λ (w : ObservedRun). w.text.items) (λ (w : ObservedRun). w.end) c.finished.result
    (rw (← c.status_in-stat.ensures) c.finished.ensures.text) (rw (← c.status_in-stat.ensures) c.finished.ensures.end)
    (before_limit _ _ _ _ _ _ _ _ c.loop-k-test.true c.loop-k.invariant.watches
    (ap is_aok (sym c.status_in-stat.ensures) ∙ (sym c.is_aok_stat.ensures ∙ c.if-not-is_aok_stat.true)))

pub returns : goal.returns
returns g c =
    shows_run _ _ _ _ _ _ _ _ (λ (w : ObservedRun). w.text.items) (λ (w : ObservedRun). w.end) c.finished-2.result
    (rw (← c.status_in-stat-2.ensures) c.finished-2.ensures.text) (rw (← c.status_in-stat-2.ensures) c.finished-2.ensures.end)
    (at_limit _ _ _ _ _ _ _ _ (omega (arith, c.loop-k-test.false, c.loop-k.auto.k-end)) c.loop-k.invariant.watches)
