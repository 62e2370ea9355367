use Rattle.std.proofs.Common.{sym, ◌∙◌, arith}
use Rattle.pipe_stage_text.proofs.Runs.{watches_more}
use Rattle.pipe_stage_text.proofs.observer.watch_listed.Goals as goal

pub loop-k-preserved : goal.loop-k-preserved
loop-k-preserved g c =
    let before = c.loop-k.invariant in
    let went = c.in-Ok.ensures.cycle in
    let rows = c.in-Ok.ensures.few_rows in
    let retired = c.in-Ok.ensures.few_retired in
    record {
      watches = watches_more _ _ _ _ c.loop-k.k c.loop-k.s _ went.0 before.watches (sym c.is_running.ensures ∙ c.if-not-is_running.false) went.1 (rw c.requires.table at went.2);
      rows = omega (arith, rows, before.rows);
      retired = omega (arith, retired, before.retired);
      kept = c.in-Ok.ensures.kept;
      fits = rw c.in-Ok.ensures.same before.fits;
    }
