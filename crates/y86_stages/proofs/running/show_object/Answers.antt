use Rattle.cli_plans.proofs.Does.{read_goes_on, read_stops, said, stage_goes_on, stage_refuses}
use Rattle.y86_stages.specs.ShowAnswers.{object_plan}
use Rattle.y86_stages.proofs.running.show_object.Goals as goal

pub returns-in-Err : goal.returns-in-Err
unfolding object_plan
returns-in-Err g c = read_stops _ _ _ _ _ _ _ c.in-Err.ensures.stops

pub returns-in-Err-load_image : goal.returns-in-Err-load_image
unfolding object_plan
returns-in-Err-load_image g c =
    read_goes_on _ _ _ _ _ _ _ _ _ _ c.in-Ok.ensures.later c.in-Ok.ensures.bytes.0 c.in-Ok.ensures.bytes.1
    (stage_refuses _ _ _ _ _ (rw c.as_slice-object.ensures.value at c.in-Err-load_image.ensures))

pub returns : goal.returns
unfolding object_plan
returns g c =
    read_goes_on _ _ _ _ _ _ _ _ _ _ c.in-Ok.ensures.later c.in-Ok.ensures.bytes.0 c.in-Ok.ensures.bytes.1
    (stage_goes_on _ _ _ _ _ _ _ _ (rw c.as_slice-object.ensures.value at c.in-Ok-load_image.ensures)
    (said _ _ _ _ _ (rw c.as_slice-object.ensures.value at c.show_image.ensures)))
