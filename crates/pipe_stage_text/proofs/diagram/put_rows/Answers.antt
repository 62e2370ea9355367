use Rattle.std.proofs.Common.{sym, append-nil}
use Rattle.yis_run.proofs.Each.{each_below-zero}
use Rattle.pipe_stage_text.proofs.Rows.{more_rows}
use Rattle.pipe_stage_text.proofs.diagram.put_rows.Goals as goal

pub loop-before-init : goal.loop-before-init
loop-before-init c = rw each_below-zero (sym (append-nil _))

pub loop-before-preserved : goal.loop-before-preserved
loop-before-preserved c = more_rows _ _ _ _ _ c.loop-before.invariant c.in-Ok.ensures
