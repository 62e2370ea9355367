use Rattle.y86_stages.proofs.Shown.{shown_says}
use Rattle.y86_stages.proofs.running.show_image.Goals as goal

pub returns-in-Ok : goal.returns-in-Ok
returns-in-Ok g c =
    shown_says _ _ _ _ _ _ _ _ _ _ _ _ _ c.in-Ok.ensures c.status.ensures.status (rw c.as_slice.ensures.value at c.write_answer.ensures)
