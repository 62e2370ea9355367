use Rattle.cli_obligations.specs.Answers.{certify_pipe_plan}
use Rattle.cli_plans.proofs.Does.{read_stage_goes_on, read_stage_stops, said}
use Rattle.cli_obligations.proofs.certify.certify_pipe_file.Goals as goal

pub returns-in-Err : goal.returns-in-Err
unfolding certify_pipe_plan
returns-in-Err g c = read_stage_stops _ _ _ _ _ _ _ _ _ c.in-Err.ensures.design

pub returns : goal.returns
unfolding certify_pipe_plan
returns g c =
    read_stage_goes_on _ _ _ _ c.in-Ok.bound.ordered.design.terms _ _ _ _ _ _ _ c.in-Ok.ensures.design
    (said _ _ _ _ _ c.say_certificate.ensures)
