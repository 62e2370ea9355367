use Rattle.cli_runs.specs.Answers.{seq_plan}
use Rattle.cli_plans.proofs.Does.{read_goes_on, read_stops, said, stage_goes_on, stage_refuses}
use Rattle.cli_runs.proofs.ssim.run_object.Goals as goal

pub returns-in-Err : goal.returns-in-Err
unfolding seq_plan
returns-in-Err g c = read_stops _ _ _ _ _ _ _ c.in-Err.ensures.stops

pub returns-in-Err-load_image : goal.returns-in-Err-load_image
unfolding seq_plan
returns-in-Err-load_image g c =
    read_goes_on _ _ _ _ _ _ _ _ _ _ c.in-Ok.ensures.later c.in-Ok.ensures.bytes.0 c.in-Ok.ensures.bytes.1
    (stage_refuses _ _ _ _ _ (rw c.as_slice.ensures.value at c.in-Err-load_image.ensures))

pub returns : goal.returns
unfolding seq_plan
returns g c =
    read_goes_on _ _ _ _ _ _ _ _ _ _ c.in-Ok.ensures.later c.in-Ok.ensures.bytes.0 c.in-Ok.ensures.bytes.1
    (stage_goes_on _ _ _ _ _ _ _ _ (rw c.as_slice.ensures.value at c.in-Ok-load_image.ensures) (said _ _ _ _ _ c.run_image.ensures))
