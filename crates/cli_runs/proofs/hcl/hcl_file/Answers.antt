use Rattle.cli_runs.specs.Answers.{hcl_plan}
use Rattle.cli_plans.proofs.Does.{gives_it, one_goes_on, one_refuses, read_goes_on}
use Rattle.cli_runs.proofs.hcl.hcl_file.Goals as goal

pub returns-in-Err-read_hcl : goal.returns-in-Err-read_hcl
unfolding hcl_plan
returns-in-Err-read_hcl g c =
    read_goes_on _ _ _ _ _ _ _ _ _ _ c.in-Ok.ensures.later c.in-Ok.ensures.bytes.0 c.in-Ok.ensures.bytes.1
    (one_refuses _ _ _ _ _ _ (rw c.as_slice.ensures.value at c.in-Err-read_hcl.ensures))

pub returns-in-Ok-print : goal.returns-in-Ok-print
unfolding hcl_plan
returns-in-Ok-print g c =
    read_goes_on _ _ _ _ _ _ _ _ _ _ c.in-Ok.ensures.later c.in-Ok.ensures.bytes.0 c.in-Ok.ensures.bytes.1
    (one_goes_on _ _ c.in-Ok-read_hcl.file _ _ _ _ _ _ (rw c.as_slice.ensures.value at c.in-Ok-read_hcl.ensures)
    (gives_it _ _ _ _ _ (rw (c.as_slice-in-Ok-print.ensures.value, c.in-Ok-print.ensures) at c.write_answer.ensures)))
