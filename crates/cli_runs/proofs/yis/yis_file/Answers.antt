use Rattle.cli_runs.specs.Answers.{yis_plan}
use Rattle.cli_plans.proofs.Does.{gives_it, read_goes_on, stage_goes_on, stage_refuses}
use Rattle.cli_runs.proofs.yis.yis_file.Goals as goal

pub returns-in-Err-load_image : goal.returns-in-Err-load_image
unfolding yis_plan
returns-in-Err-load_image g c =
    read_goes_on _ _ _ _ _ _ _ _ _ _ c.in-Ok.ensures.later c.in-Ok.ensures.bytes.0 c.in-Ok.ensures.bytes.1
    (stage_refuses _ _ _ _ _ (rw c.as_slice.ensures.value at c.in-Err-load_image.ensures))

pub returns : goal.returns
unfolding yis_plan
returns g c =
    read_goes_on _ _ _ _ _ _ _ _ _ _ c.in-Ok.ensures.later c.in-Ok.ensures.bytes.0 c.in-Ok.ensures.bytes.1
    (stage_goes_on _ _ _ _ _ _ _ _ (rw c.as_slice.ensures.value at c.in-Ok-load_image.ensures) (gives_it _ _ _ _ _ c.run_image.ensures))
