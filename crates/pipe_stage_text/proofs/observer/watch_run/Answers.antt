use Rattle.std.proofs.Common.{◌∙◌}
use Rattle.std.proofs.lemmas.Result.{IfOk-weaker}
use Rattle.pipe_stage_text.proofs.Runs.{same_whole}
use Rattle.pipe_stage_text.proofs.observer.watch_run.Goals as goal

pub returns : goal.returns
returns g c =
    IfOk-weaker c.watch_listed.result _ _
    (λ w h. (h.0, h.1, h.2, h.3 ∙ same_whole _ _ _ c.in-Ok.ensures _ _, h.4))
    c.watch_listed.ensures
