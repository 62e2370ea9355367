use Rattle.cli_runs.specs.Answers.{yas_plan}
use Rattle.cli_plans.proofs.Does.{gives_it, read_goes_on, stage_goes_on, stage_refuses}
use Rattle.cli_runs.proofs.yas.yas_file.Goals as goal

pub returns-in-Err-object_text : goal.returns-in-Err-object_text
unfolding yas_plan
returns-in-Err-object_text g c =
    read_goes_on _ _ _ _ _ _ _ _ _ _ c.in-Ok.ensures.later c.in-Ok.ensures.bytes.0 c.in-Ok.ensures.bytes.1
    (stage_refuses _ _ _ _ _ (rw c.as_slice.ensures.value at c.in-Err-object_text.ensures))

pub returns : goal.returns
unfolding yas_plan
returns g c =
    read_goes_on _ _ _ _ _ _ _ _ _ _ c.in-Ok.ensures.later c.in-Ok.ensures.bytes.0 c.in-Ok.ensures.bytes.1
    (stage_goes_on _ _ _ _ _ _ _ _ (rw c.as_slice.ensures.value at c.in-Ok-object_text.ensures)
    (gives_it _ _ _ _ _ (rw c.as_slice-2.ensures.value at c.write_answer.ensures)))
