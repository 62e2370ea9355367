use Rattle.cli_checks.specs.Answers.{check_seq_plan}
use Rattle.cli_plans.proofs.Does.{read_stage_goes_on, read_stage_stops, said}
use Rattle.cli_checks.proofs.check.check_seq_file.Goals as goal

pub returns-in-Err : goal.returns-in-Err
unfolding check_seq_plan
returns-in-Err g c = read_stage_stops _ _ _ _ _ _ _ _ _ c.in-Err.ensures.design

pub returns : goal.returns
unfolding check_seq_plan
returns g c =
    read_stage_goes_on _ _ _ _ c.in-Ok.bound.ordered.design.terms _ _ _ _ _ _ _ c.in-Ok.ensures.design
    (said _ _ _ _ _ c.say_seq.ensures)
